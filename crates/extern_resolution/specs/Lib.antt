pub mod Errors
pub mod Faults
pub mod Outcomes
pub mod Records
pub mod Resolution
pub mod Steps
