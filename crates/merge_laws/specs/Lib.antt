pub mod United
pub mod Inferences
