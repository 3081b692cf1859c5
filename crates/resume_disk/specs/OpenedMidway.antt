pub mod Sides
pub mod Runs
pub mod Causes
pub mod Openings
