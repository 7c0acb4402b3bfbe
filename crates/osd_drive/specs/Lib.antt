pub mod State
pub mod Table
pub mod Effects
pub mod Repeats
pub mod Short
pub mod Known
