pub mod Instructions
pub mod Patches
