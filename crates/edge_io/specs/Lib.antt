pub mod Causes
pub mod Lines
pub mod Reader
pub mod Reading
pub mod Memory
pub mod Refilling
pub mod LineSoFar
