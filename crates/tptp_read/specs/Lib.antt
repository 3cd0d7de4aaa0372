pub mod Meaning
pub mod Arguments
pub mod Grammar
pub mod Reader
pub mod Turns
pub mod Machine
pub mod Texts
pub mod Given
