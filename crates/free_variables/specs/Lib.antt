pub mod Sets
pub mod Occurrence
pub mod Grade
pub mod Fresh
pub mod Union
