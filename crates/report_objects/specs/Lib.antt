pub mod Answers
pub mod Calls
