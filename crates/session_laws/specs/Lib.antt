pub mod Jobs
pub mod Answers
pub mod Claimed
pub mod Replying
pub mod Session
