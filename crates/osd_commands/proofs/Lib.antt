pub mod Passing
pub mod Writing
pub mod CommandLaws
pub mod ReplyLaws
