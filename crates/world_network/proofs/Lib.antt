mod Showing
mod Several
pub mod Noted
pub mod Taking
pub mod Moving
pub mod Posted
