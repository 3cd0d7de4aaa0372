pub mod Lexing
pub mod FormedTokens
pub mod SameBytes
