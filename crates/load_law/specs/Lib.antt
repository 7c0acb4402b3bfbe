pub mod ClientState
pub mod Load
