pub mod Ciphers
pub mod Calling
pub mod Histories
pub mod Lanes
pub mod Executing
pub mod Working
pub mod Works
pub mod Serving
