pub mod Names
pub mod RuleKinds
pub mod NodeKinds
pub mod Refutations
