pub mod Ending
pub mod Turn
pub mod Counting
pub mod Generating
pub mod Command
pub mod Parts
pub mod Writing
pub mod Bundles
