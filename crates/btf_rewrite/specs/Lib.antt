pub mod Carrying
pub mod Ksyms
pub mod Sanitizing
pub mod Steps
