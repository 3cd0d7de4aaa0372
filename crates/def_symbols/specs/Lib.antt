pub mod Weights
pub mod Table
