pub mod Embedded
pub mod Errors
pub mod Tables
