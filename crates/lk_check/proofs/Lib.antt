pub mod Picks
pub mod Growing
