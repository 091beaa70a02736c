pub mod ByteLists
pub mod Faultless
pub mod Growth
pub mod Ids
pub mod Ints
pub mod Layout
pub mod NewRecords
