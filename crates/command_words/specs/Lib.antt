pub mod Options
pub mod Work
pub mod Asked
pub mod StoredAsked
