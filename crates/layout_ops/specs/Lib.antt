pub mod Refusals
pub mod Enumerations
pub mod Grammar
pub mod Spelling
pub mod Reading
