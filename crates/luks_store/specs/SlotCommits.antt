pub mod Agreements
pub mod Calls
pub mod Images
pub mod Promises
