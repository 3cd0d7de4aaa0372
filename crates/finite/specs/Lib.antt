pub mod Finite
pub mod Place
