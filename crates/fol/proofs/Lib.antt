pub mod OrderTies
pub mod FormedDepth
pub mod NumberedTexts
pub mod Fingerprints
pub mod FormedPredicates
