pub mod Reported
pub mod DealingLaws
pub mod Stopping
