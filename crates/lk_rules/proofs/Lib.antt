pub mod Listings
pub mod Subsequents
pub mod Rows
pub mod RuleTies
pub mod SequentVariables
pub mod Crossing
