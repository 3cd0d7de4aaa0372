pub mod Faults
pub mod Instancing
pub mod Introducing
