pub mod UnderMaps
pub mod Passes
pub mod Crossing
