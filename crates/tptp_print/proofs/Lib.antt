pub mod Choices
pub mod Printable
pub mod Agreement
