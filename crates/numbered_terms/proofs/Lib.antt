pub mod Listing
pub mod Members
pub mod NumberLists
pub mod NumberTests
pub mod TermSets
pub mod TupleNumbers
pub mod WalkSteps
