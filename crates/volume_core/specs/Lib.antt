pub mod Answers
pub mod Calls
pub mod Volumes
pub mod Zones
pub mod Turns
pub mod WorkerLoop
