pub mod BothPremises
pub mod CutCounts
pub mod Crossing
pub mod WholeEliminations
