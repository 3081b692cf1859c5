pub mod ClientsLeft
pub mod Beside
pub mod RunsOf
pub mod Executions
