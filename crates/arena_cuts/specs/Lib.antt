pub mod CutNumbers
pub mod Reductions
pub mod Tables
pub mod Pairs
pub mod Whole
