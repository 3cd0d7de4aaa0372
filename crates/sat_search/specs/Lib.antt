pub mod Grounds
pub mod Answers
pub mod Derived
