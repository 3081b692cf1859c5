pub mod Lists
pub mod Names
pub mod Families
pub mod Stories
pub mod Turns
pub mod Asked
pub mod Drawn
