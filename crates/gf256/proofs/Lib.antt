pub mod Computed
pub mod Sums
pub mod Product
pub mod Laws
pub mod Inverses
pub mod Halves
pub mod LaneLaws
pub mod Blocks
