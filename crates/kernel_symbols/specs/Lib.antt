pub mod Addresses
pub mod Reading
pub mod Texts
pub mod Wanted
pub mod Words
