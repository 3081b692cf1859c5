pub mod Held
pub mod Hidden
pub mod Meanings
pub mod Promises
pub mod Seen
pub mod Steps
