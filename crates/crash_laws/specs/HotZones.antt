pub mod Calls
pub mod Promises
pub mod Standing
pub mod Zones
