pub mod Values
pub mod Answers
pub mod Given
pub mod Running
pub mod Claims
