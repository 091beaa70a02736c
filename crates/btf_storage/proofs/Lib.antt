pub mod Growth
pub mod Left
pub mod Lengths
pub mod Places
pub mod Reading
pub mod Writing
