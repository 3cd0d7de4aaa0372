pub mod TaskKeys
pub mod Changes
pub mod TreeVariables
pub mod Tasks
pub mod Lists
pub mod Pairs
pub mod Bindings
pub mod NodeKeys
