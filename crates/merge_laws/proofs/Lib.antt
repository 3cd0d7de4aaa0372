pub mod Unions
pub mod UnitedWalks
pub mod GivenNames
pub mod MergedInstances
pub mod MergedTrees
pub mod Agreeing
pub mod PrefixClosed
pub mod ClosedWalks
pub mod TwoPremises
mod Examples
