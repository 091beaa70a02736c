pub mod Numbers
pub mod Headers
pub mod Names
pub mod Sections
pub mod Symbols
pub mod Relocations
pub mod Faults
