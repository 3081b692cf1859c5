pub mod Clients
pub mod Listening
pub mod Shares
pub mod Untold
