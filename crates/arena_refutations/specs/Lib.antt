pub mod Standing
pub mod Importing
pub mod Planning
