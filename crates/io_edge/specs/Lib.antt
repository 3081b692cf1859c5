pub mod Calls
pub mod FaultPlan
pub mod Faults
pub mod Intake
pub mod Memory
pub mod Outlet
pub mod Supply
