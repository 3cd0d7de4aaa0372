pub mod Deriving
pub mod OwnAtoms
