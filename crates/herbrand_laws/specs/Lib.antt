pub mod Herbrand
pub mod Patterns
pub mod Candidates
pub mod Introduction
pub mod Counted
