pub mod Kinds
pub mod LineReading
pub mod LineReads
pub mod LineViews
pub mod Lines
pub mod ProgramKinds
pub mod WordReading
pub mod Words
