pub mod Unfoldings
