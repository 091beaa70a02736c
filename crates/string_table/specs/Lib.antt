pub mod FirstBytes
pub mod Names
pub mod Texts
