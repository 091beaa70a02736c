pub mod ByBytes
pub mod Entered
pub mod Faultless
pub mod FirstSymbols
pub mod Growth
pub mod Search
pub mod TypesErrors
