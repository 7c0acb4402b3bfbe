mod Tables
mod Noting
mod CalmShowing
mod Logging
mod Taking
mod Marking
mod Mending
mod Harming
mod Performing
mod Flagging
mod Beginning
mod CalmTelling
mod Ending
mod CalmFollowing
mod CalmOpening
mod Short
mod FileShowing
pub mod Sighting
pub mod Stepping
mod MoveStepping
pub mod MoveFollowing
pub mod Events
mod Watching
mod MoveNotes
pub mod MoveFacts
mod Giving
