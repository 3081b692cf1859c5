pub mod SegmentLemmas
pub mod VolumeLemmas
pub mod StepLemmas
pub mod CauseLemmas
pub mod ArmLemmas
pub mod OpenLemmas
