pub mod Contraction
pub mod LowerCuts
pub mod Elimination
pub mod Budgets
