pub mod Refusals
pub mod Again
pub mod Enumerations
pub mod Grammar
pub mod Spelling
pub mod Reading
pub mod Lines
pub mod Leaves
