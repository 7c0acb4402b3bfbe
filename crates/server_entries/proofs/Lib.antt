pub mod Codecs
