pub mod Histories
pub mod Knowing
pub mod Exclusion
pub mod History
pub mod Steps
pub mod Asking
pub mod Passes
pub mod Numbered
