pub mod Content
pub mod Geometry
pub mod Installed
pub mod MatchedTables
pub mod Names
