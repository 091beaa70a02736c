pub mod Starts
pub mod Tables
