pub mod NoteLaws
pub mod RemarkLaws
