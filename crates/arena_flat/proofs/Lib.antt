pub mod Sizes
pub mod RuleLaws
pub mod Growth
pub mod SideSets
