pub mod Adding
pub mod JobTexts
mod Examples
pub mod PlainTexts
pub mod ShortJobs
pub mod LineLaws
pub mod ReadValues
pub mod ReadJobs
