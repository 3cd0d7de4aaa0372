pub mod Answered
pub mod Members
pub mod Needed
pub mod Images
pub mod Renaming
pub mod Renamed
