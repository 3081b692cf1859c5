pub mod Zones
pub mod Images
pub mod Openings
pub mod Mending
pub mod Promises
