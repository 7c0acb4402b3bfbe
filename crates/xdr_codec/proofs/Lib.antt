pub mod Codec
pub mod ItemLaws
