pub mod Clauses
pub mod FirstOccurrences
pub mod Refutations
pub mod DerivedSteps
