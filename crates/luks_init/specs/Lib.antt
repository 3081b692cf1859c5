pub mod Wishes
pub mod Places
pub mod Metadata
pub mod Begins
pub mod Faults
pub mod Laws
pub mod DiskInit
