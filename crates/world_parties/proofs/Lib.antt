mod Written
mod DriveWorlds
mod Writes
mod ClientWorlds
mod StoreOn
mod Wants
mod Made
mod Backings
pub mod Refused
