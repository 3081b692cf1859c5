pub mod Examinations
pub mod Reports
