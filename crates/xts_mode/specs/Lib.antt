pub mod Laws
pub mod Xts
