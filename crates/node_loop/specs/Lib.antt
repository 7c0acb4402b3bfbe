pub mod Nodes
pub mod Rules
pub mod Steps
pub mod Serving
pub mod Points
