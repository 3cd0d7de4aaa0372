pub mod Short
pub mod Flattened
pub mod Over
pub mod PlainParts
