pub mod Asking
pub mod Spelling
pub mod Reading
