pub mod State
pub mod Steps
pub mod Deeds
pub mod History
pub mod Like
pub mod Events
pub mod Laws
