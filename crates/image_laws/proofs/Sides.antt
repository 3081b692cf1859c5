pub mod ReadLemmas
pub mod LengthLemmas
pub mod KeyLemmas
