pub mod ExamineLemmas
pub mod LineLemmas
