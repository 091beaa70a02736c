pub mod Covers
pub mod Steps
