pub mod Pairs
pub mod Events
pub mod Table
pub mod Memos
