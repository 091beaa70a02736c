pub mod Faultless
pub mod FirstFaults
pub mod Indexes
pub mod Last
pub mod Lookups
pub mod Numbers
pub mod SectionFaults
