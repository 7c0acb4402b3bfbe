pub mod Read
pub mod Log
pub mod Files
pub mod Marking
pub mod Seeing
