pub mod Short
pub mod Mapped
pub mod Last
pub mod Places
