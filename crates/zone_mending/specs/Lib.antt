pub mod OpenZones
pub mod Menders
pub mod Steps
pub mod Elsewhere
pub mod Known
pub mod Promises
