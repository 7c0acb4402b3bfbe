pub mod Judge
pub mod Held
pub mod OneList
