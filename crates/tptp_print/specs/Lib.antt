pub mod Choice
pub mod Canonical
pub mod Passed
