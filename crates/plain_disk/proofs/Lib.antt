pub mod BlockLemmas
pub mod EdgeLemmas
pub mod MeaningLemmas
pub mod RangeLemmas
pub mod StepLemmas
