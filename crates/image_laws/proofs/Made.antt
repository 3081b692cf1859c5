pub mod BlockLemmas
pub mod CipherLemmas
pub mod KeyLemmas
pub mod PlacedLemmas
pub mod StandLemmas
