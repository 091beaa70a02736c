pub mod Fields
pub mod Forms
pub mod Laws
pub mod Reading
pub mod Texts
