pub mod Firsts
pub mod Notes
