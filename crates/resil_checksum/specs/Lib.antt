pub mod Digests
pub mod Clashes
pub mod Comparing
pub mod Promises
