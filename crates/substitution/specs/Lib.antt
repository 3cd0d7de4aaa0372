pub mod Closed
pub mod Instance
pub mod Image
pub mod Sharing
pub mod Maps
pub mod Closing
pub mod Restriction
pub mod Unfolding
