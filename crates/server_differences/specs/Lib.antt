pub mod Views
pub mod Sameness
pub mod FileDifferences
pub mod Differences
