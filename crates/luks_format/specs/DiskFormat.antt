pub mod Fitting
pub mod Volumes
pub mod Calls
pub mod Rests
pub mod Written
