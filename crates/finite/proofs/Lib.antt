pub mod Finite
pub mod Rising
pub mod Places
pub mod Removed
pub mod Inclusion
