pub mod Makings
pub mod Tables
pub mod Calls
pub mod Laws
pub mod Slips
pub mod Unlocking
pub mod Answers
