pub mod ReaderLaw
pub mod TurnLaw
pub mod Sound
pub mod Complete
pub mod Fronts
pub mod Depth
pub mod Reading
pub mod Whole
pub mod Formed
pub mod Plain
pub mod TextEnds
pub mod Closing
pub mod FormedValues
mod Turned
