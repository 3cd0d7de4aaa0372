pub mod Interpolation
pub mod Parts
pub mod Interpolating
