pub mod Matches
pub mod Classes
pub mod Solving
pub mod Shapes
pub mod Joining
pub mod Values
