pub mod FieldCompatibility
pub mod Laws
pub mod Pairs
pub mod TypeCompatibility
