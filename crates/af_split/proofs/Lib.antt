pub mod Parts
pub mod Chain
pub mod Undo
