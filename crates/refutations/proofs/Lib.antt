pub mod FirstOccurrences
pub mod Closures
pub mod Inferences
pub mod InputTrees
pub mod Derivations
pub mod Refuting
pub mod StepFaults
