pub mod Drawings
pub mod Digests
