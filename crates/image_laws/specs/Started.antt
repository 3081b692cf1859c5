pub mod Gaps
pub mod Starting
