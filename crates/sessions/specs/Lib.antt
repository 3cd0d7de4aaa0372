pub mod Switches
pub mod Parts
pub mod Bundles
pub mod SoFar
pub mod Reading
