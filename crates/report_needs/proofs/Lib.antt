pub mod Added
pub mod Firsts
pub mod KindsOf
pub mod Variants
