pub mod Content
pub mod Machine
pub mod PlanGrammar
pub mod PlanParts
pub mod Reading
