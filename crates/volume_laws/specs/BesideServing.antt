pub mod Failing
pub mod Replies
pub mod Tables
pub mod Stops
