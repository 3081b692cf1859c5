pub mod Codes
pub mod Heads
pub mod Tellings
pub mod Readings
pub mod Works
pub mod Promises
pub mod Holding
pub mod Sides
