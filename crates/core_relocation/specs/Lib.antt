pub mod Relocations
pub mod Writes
pub mod Faults
pub mod Reach
pub mod Carried
pub mod Laws
pub mod Walks
