pub mod Hashed
pub mod Helpers
pub mod ParsedObject
pub mod Rewriting
pub mod TextSections
pub mod TypeRelocations
