pub mod Eliminations
pub mod Desks
pub mod Lending
pub mod Branches
pub mod Whole
