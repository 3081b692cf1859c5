pub mod Made
pub mod Opened
pub mod Sides
pub mod Started
pub mod Led
