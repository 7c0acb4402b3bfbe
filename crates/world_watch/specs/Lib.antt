pub mod State
pub mod Watching
pub mod Steps
pub mod Laws
pub mod Capping
pub mod Sighted
pub mod Guessing
pub mod Tied
