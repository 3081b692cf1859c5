pub mod CallLemmas
pub mod ImageLemmas
pub mod ReplayLemmas
pub mod TableLemmas
