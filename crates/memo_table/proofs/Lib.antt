pub mod Crossing
mod Finds
mod Histories
pub mod Listed
