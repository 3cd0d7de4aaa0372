pub mod Checking
pub mod StepTrees
pub mod Admission
pub mod Subtrees
pub mod Places
pub mod Faults
