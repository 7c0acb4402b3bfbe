pub mod SameFile
pub mod Taking
pub mod Moves
pub mod Hearings
pub mod Resending
