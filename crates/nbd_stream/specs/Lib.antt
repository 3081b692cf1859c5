pub mod Counts
pub mod Endings
pub mod Moments
pub mod Putting
pub mod Taking
pub mod Traffic
