pub mod Calls
pub mod Crashes
pub mod Errors
pub mod Images
pub mod Medium
