pub mod Encodings
pub mod Fields
pub mod Info
pub mod Items
pub mod Kinds
pub mod Words
