pub mod DifferingMatches
pub mod FoundPaths
pub mod KnownOutcomes
pub mod MatchesOf
pub mod OneTable
pub mod OutcomeTables
pub mod OutcomesAlike
pub mod WantedCandidates
