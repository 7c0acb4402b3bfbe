pub mod Settled
pub mod Growing
pub mod OneList
mod Members
mod Same
mod Pieces
