pub mod Documents
pub mod Features
pub mod Invalid
