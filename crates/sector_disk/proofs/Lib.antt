pub mod CellLemmas
pub mod StepLemmas
pub mod DiskViews
pub mod JoinedDisks
