pub mod ReplyLines
pub mod Claiming
pub mod Flags
