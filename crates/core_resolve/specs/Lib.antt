pub mod FoundPaths
pub mod KnownOutcomes
pub mod Laws
pub mod Matches
pub mod OneTable
pub mod Outcomes
pub mod RelocationOutcomes
