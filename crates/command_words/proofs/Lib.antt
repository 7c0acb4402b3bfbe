pub mod Parsed
pub mod Asking
pub mod Works
