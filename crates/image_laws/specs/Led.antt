pub mod Holding
pub mod Keys
pub mod Spared
pub mod Runs
pub mod Turned
pub mod Leading
pub mod Promises
