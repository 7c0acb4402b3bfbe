pub mod Lengths
pub mod Steps
pub mod EnumCodecs
pub mod Codecs
pub mod ListLoops
pub mod Shown
pub mod Writable
