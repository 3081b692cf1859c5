pub mod EightLemmas
pub mod NumberLemmas
pub mod RowLemmas
