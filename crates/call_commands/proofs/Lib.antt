pub mod Lists
pub mod Pendings
pub mod Queues
pub mod Orders
pub mod Numbering
