pub mod Inspection
pub mod Lines
