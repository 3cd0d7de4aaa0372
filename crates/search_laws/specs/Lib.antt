pub mod Truth
pub mod Search
pub mod Budgets
