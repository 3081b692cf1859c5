pub mod Devices
pub mod Found
pub mod Used
pub mod Loads
pub mod Promises
pub mod Commits
pub mod Copying
pub mod SlotCommits
