pub mod Maps
pub mod Replies
pub mod Tokens
pub mod OneLine
pub mod Shown
