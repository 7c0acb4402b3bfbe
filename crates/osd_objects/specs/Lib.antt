pub mod Pages
pub mod Sparse
pub mod Lanes
pub mod Attributes
pub mod Objects
pub mod Store
