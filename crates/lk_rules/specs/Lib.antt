pub mod Items
pub mod Formulas
pub mod Sequents
pub mod Rules
pub mod RuleOrder
pub mod Fingerprints
