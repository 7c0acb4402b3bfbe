pub mod Steps
pub mod Fields
pub mod ListLoops
pub mod ArgsCodecs
pub mod ResultsCodecs
pub mod Codecs
pub mod Whole
pub mod Writable
