pub mod ImageKeys
pub mod Images
pub mod Benches
pub mod Lending
