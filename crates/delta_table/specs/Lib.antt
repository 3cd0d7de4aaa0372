pub mod Chosen
pub mod FoundRows
pub mod Items
pub mod Numbering
pub mod Places
pub mod Tables
