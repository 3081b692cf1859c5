pub mod Cells
pub mod Devices
pub mod Geometry
pub mod Steps
pub mod Values
pub mod DiskViews
pub mod JoinedDisks
