pub mod Context
pub mod Disk
pub mod DiskLaws
pub mod Keys
pub mod Names
pub mod SectorLaws
