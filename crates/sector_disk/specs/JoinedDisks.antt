pub mod Counts
pub mod Joined
pub mod JoinedCalls
pub mod JoinedLaws
