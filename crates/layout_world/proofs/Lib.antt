mod Settling
mod Shown
mod Performing
mod Acted
mod Delivered
mod Moved
mod Going
mod Finishing
mod Opened
mod Watched
mod Housed
pub mod ServerActed
pub mod Knowing
pub mod Posted
pub mod Refused
pub mod Causes
