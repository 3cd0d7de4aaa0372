pub mod EachSide
pub mod Images
pub mod Differences
pub mod Unified
pub mod Unrolled
pub mod Matched
pub mod WellFormed
pub mod Examples
