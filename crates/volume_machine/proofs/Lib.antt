pub mod EdgeBlocks
pub mod EventEffects
pub mod KeyLemmas
pub mod Locking
pub mod NextPieces
pub mod Soundness
