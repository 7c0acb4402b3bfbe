pub mod Check
pub mod Inverse
pub mod Ranges
pub mod Striping
