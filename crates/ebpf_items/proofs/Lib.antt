pub mod Renamed
pub mod SlotLists
