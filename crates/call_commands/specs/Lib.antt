pub mod State
pub mod Having
pub mod Pending
pub mod Queue
pub mod Ordering
