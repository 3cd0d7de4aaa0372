pub mod Lists
pub mod Building
pub mod Buildable
pub mod Budgets
