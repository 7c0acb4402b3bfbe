pub mod Mac
pub mod InTheMaking
