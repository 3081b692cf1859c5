pub mod Openings
pub mod Refusals
pub mod Shorts
pub mod Stops
