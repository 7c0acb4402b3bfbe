pub mod Beginning
pub mod Differences
pub mod Ends
pub mod Lacking
pub mod Opened
pub mod Preparing
pub mod Service
pub mod StoredServer
