pub mod BestRow
pub mod BestTable
mod Collected
pub mod CostSteps
pub mod Entries
pub mod FoundRows
pub mod ItemFacts
pub mod NumberRows
pub mod PlaceSets
pub mod Rests
pub mod SetRows
pub mod Shares
pub mod TallySteps
