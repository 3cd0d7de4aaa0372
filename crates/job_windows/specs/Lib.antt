pub mod Names
pub mod Running
pub mod Windows
pub mod Means
pub mod Reading
pub mod Replying
