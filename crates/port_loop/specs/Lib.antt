pub mod Ports
pub mod Sessions
pub mod Steps
pub mod Serving
pub mod Points
pub mod InMemory
