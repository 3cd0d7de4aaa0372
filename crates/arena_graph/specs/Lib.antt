pub mod Ranks
pub mod Changes
pub mod Places
pub mod LastSide
pub mod Runs
pub mod ProofNumbers
pub mod Leaving
