pub mod Means
pub mod Noted
pub mod Claimed
pub mod Runs
