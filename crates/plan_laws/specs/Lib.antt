pub mod Determined
pub mod Lengths
pub mod Maps
pub mod Orders
pub mod Programs
