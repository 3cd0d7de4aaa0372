pub mod Rigid
pub mod Terms
pub mod Steps
