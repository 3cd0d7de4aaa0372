pub mod Keys
pub mod Items
pub mod Standing
pub mod Meaning
pub mod Cells
pub mod ItemFacts
