pub mod Areas
pub mod Headers
pub mod Commits
pub mod Firsts
pub mod Promises
pub mod Fronts
