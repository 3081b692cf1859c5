pub mod Locks
pub mod Ranks
