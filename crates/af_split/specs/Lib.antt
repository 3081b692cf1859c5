pub mod Af
