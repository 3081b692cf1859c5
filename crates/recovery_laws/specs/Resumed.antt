pub mod Keeping
pub mod Openings
pub mod Starts
pub mod Runs
pub mod Resuming
pub mod Chaining
pub mod Repeating
pub mod Passphrases
