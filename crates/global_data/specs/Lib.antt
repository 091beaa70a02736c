pub mod GlobalData
pub mod Kept
pub mod SectionMaps
pub mod Writes
