pub mod RuleNumbers
pub mod AuxiliaryNumbers
