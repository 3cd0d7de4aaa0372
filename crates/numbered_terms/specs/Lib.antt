pub mod Nodes
pub mod NumberSets
pub mod Numbered
pub mod Walks
