pub mod Party
pub mod Exit
pub mod Ends
pub mod Network
pub mod Run
pub mod Stored
