pub mod Cbc
pub mod Laws
pub mod Rows
