pub mod Conversions
pub mod Leaving
pub mod Steps
