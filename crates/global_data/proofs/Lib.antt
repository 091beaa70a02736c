pub mod Fitting
pub mod Kept
pub mod Steps
pub mod Written
