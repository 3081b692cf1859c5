pub mod Operations
pub mod Outcomes
pub mod Machine
pub mod Plain
