pub mod Waiting
pub mod Fences
