pub mod Indexes
pub mod Within
