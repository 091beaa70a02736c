pub mod Answered
pub mod Linked
pub mod NoTypeRelocations
pub mod RefusedTables
