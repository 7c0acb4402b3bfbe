pub mod Ranges
pub mod Listing
pub mod Maps
pub mod Bodies
pub mod ByFile
pub mod Dues
