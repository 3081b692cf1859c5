pub mod Bays
pub mod Memory
pub mod Names
pub mod Stories
