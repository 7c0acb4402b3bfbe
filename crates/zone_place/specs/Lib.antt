pub mod Zones
pub mod Law
pub mod Dealing
pub mod Choosing
pub mod Picking
