pub mod WorkCalls
pub mod Failures
pub mod Errors
pub mod Pieces
pub mod Faultless
pub mod Tables
pub mod Legals
pub mod Stops
