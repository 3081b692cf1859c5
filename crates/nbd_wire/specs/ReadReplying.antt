pub mod Outcomes
pub mod Parts
pub mod Payloads
pub mod Replies
pub mod Views
