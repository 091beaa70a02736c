pub mod Flow
pub mod Machine
pub mod Reach
pub mod Visits
pub mod Work
