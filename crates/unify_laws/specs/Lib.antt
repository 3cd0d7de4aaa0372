pub mod Equations
pub mod Unification
pub mod Matching
