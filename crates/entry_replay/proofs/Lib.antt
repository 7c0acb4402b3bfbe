pub mod SoundLaws
pub mod ChangeLaws
pub mod DriveLaws
pub mod MakingLaws
pub mod RunLaws
