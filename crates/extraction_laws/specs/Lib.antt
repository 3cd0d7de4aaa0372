pub mod Addresses
pub mod States
pub mod Extraction
pub mod Images
pub mod Extracting
