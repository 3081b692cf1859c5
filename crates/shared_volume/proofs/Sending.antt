pub mod JsonValues
pub mod Keyslots
pub mod HeaderObjects
pub mod Headers
pub mod Zones
pub mod Volumes
