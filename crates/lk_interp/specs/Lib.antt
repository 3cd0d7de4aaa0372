pub mod Interpolating
