pub mod Codes
pub mod Decimals
pub mod Entries
pub mod Fields
pub mod Floats
pub mod Forms
pub mod Members
