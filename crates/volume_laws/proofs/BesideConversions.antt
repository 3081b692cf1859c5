pub mod SoFar
pub mod Ending
