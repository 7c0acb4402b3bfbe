pub mod Rows
pub mod Bounds
pub mod Keys
pub mod Sending
pub mod Telling
pub mod Reading
