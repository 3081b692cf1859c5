pub mod Blocks
pub mod Causes
pub mod ErrorNumbers
pub mod Ranges
