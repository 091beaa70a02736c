pub mod Added
pub mod MappedZips
