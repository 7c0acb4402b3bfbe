pub mod Entries
pub mod PageLaws
pub mod Filling
pub mod Overlaying
pub mod SparseLaws
pub mod Counting
