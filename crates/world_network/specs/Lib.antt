pub mod Network
pub mod Posting
pub mod Shows
pub mod Acts
pub mod Telling
pub mod Moving
