pub mod Flat
pub mod Instances
pub mod Unfolded
pub mod Steps
pub mod Definitions
pub mod Nodes
pub mod Marking
pub mod Defining
