pub mod RuleParts
pub mod AuxiliaryLaws
