pub mod Instancing
pub mod Instances
pub mod Branches
pub mod Performing
pub mod Cuttings
pub mod Introducing
