pub mod Clear
pub mod Ready
pub mod LaneLaws
pub mod Repeated
pub mod ShortLaws
