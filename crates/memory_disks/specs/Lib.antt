pub mod Calls
pub mod EachCell
pub mod Faults
pub mod Images
pub mod Mem
pub mod MemLaws
pub mod Notes
pub mod RamLaws
