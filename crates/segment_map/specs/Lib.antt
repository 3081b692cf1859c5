pub mod Sides
pub mod Maps
