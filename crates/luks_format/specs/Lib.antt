pub mod Wishes
pub mod Drawings
pub mod Metadata
pub mod Places
pub mod DiskFormat
