pub mod Lanes
pub mod Clients
pub mod Runs
pub mod Executing
