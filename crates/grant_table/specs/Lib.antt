pub mod Refusals
pub mod Numbered
pub mod Tables
pub mod Admitting
