pub mod KeyShapes
pub mod Closings
pub mod Resolvents
pub mod ClauseLaws
pub mod Refuted
pub mod PlanLaws
pub mod ProofLaws
pub mod Tables
