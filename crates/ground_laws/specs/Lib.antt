pub mod Models
pub mod Steps
pub mod Deciding
