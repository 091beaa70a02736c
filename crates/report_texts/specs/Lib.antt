pub mod Answers
pub mod Columns
pub mod Helpers
pub mod ObjectCauses
pub mod Rows
pub mod Words
