pub mod Prenexes
pub mod Faultless
pub mod Shorter
