pub mod Suffixes
pub mod Crossing
