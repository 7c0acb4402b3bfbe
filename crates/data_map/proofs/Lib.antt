pub mod Checks
pub mod Covering
pub mod Inverse
pub mod Numbers
pub mod Shape
pub mod Striping
