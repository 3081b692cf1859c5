pub mod Copies
pub mod Fields
pub mod Hidden
pub mod Shares
pub mod Writing
