pub mod ByBytes
pub mod Changed
pub mod Installs
pub mod Keyed
