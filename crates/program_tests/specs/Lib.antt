pub mod Ranked
pub mod Swapped
