pub mod Beginnings
pub mod Marks
pub mod Texts
