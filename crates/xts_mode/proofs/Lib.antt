pub mod ByteLemmas
pub mod TweakLemmas
