pub mod Rules
pub mod Logs
pub mod Passes
pub mod Turns
pub mod Lending
