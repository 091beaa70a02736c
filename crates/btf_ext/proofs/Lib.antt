pub mod ByName
pub mod Faults
pub mod SectionInfos
pub mod Items
pub mod Named
pub mod Sections
pub mod Written
