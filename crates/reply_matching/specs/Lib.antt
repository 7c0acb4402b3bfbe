pub mod Answers
pub mod Creations
