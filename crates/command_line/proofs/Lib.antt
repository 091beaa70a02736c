pub mod Commands
pub mod Features
mod Passed
mod Numbers
mod Splits
