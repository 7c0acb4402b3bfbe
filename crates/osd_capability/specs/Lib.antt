pub mod Layout
pub mod Keys
pub mod Sealing
