pub mod State
pub mod Spelling
pub mod Reading
pub mod Changes
pub mod Making
pub mod Applying
pub mod Taking
