pub mod Eigenvariables
pub mod Edges
pub mod Links
pub mod Ranks
pub mod Distances
pub mod Checking
