pub mod Prefixes
pub mod NamedTypes
pub mod Searches
