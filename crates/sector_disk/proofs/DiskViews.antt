pub mod Blockwise
pub mod DeviceViews
pub mod Entries
pub mod TableEntries
