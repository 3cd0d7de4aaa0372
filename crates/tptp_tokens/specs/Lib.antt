pub mod Lexer
pub mod Stream
pub mod Formed
