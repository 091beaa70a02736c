pub mod Faultless
pub mod NoPrograms
pub mod Sections
