pub mod Growth
pub mod Marks
pub mod Goodness
pub mod Readiness
pub mod Turning
pub mod Boarding
pub mod Filling
