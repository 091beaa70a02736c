pub mod Externs
pub mod Faults
pub mod FirstSymbols
pub mod Names
pub mod Placeholder
pub mod Section
pub mod Symbols
pub mod Types
