pub mod Attach
pub mod Attributes
pub mod Bindings
pub mod ProgramSection
