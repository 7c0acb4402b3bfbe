pub mod Handling
pub mod Serving
pub mod Service
pub mod Ends
pub mod StoredService
pub mod StoredEnds
