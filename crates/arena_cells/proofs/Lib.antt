pub mod Reading
pub mod Staying
pub mod Facts
pub mod Stored
pub mod Sets
pub mod Bindings
pub mod OneKey
pub mod Growth
pub mod StoredFacts
pub mod Crossing
mod Pairs
