pub mod BodyLengths
pub mod FileMaps
pub mod DueLists
pub mod Lacking
