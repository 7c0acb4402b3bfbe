pub mod Lists
pub mod Judging
pub mod Lengths
pub mod Keys
