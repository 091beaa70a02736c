pub mod AccessStrings
pub mod FieldPaths
pub mod Held
pub mod LookupsAlike
pub mod PathsAlike
pub mod Units
pub mod ValuesAlike
