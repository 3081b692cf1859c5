pub mod Overwrites
pub mod Padding
pub mod Lengths
pub mod Rounds
pub mod Cuts
