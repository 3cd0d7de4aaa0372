pub mod RigidTrees
pub mod InputImages
pub mod Composed
pub mod StepLaws
