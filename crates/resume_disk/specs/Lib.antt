pub mod OpenedMidway
pub mod Keys
pub mod Resuming
pub mod Refusals
pub mod Standing
pub mod Complete
