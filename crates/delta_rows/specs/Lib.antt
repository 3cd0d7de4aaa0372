pub mod Shown
pub mod ValueOrder
