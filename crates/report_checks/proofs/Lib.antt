pub mod Chosen
pub mod Harmful
pub mod Lasts
pub mod MapCauses
pub mod Pairs
pub mod Slots
