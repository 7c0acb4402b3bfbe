pub mod ContentLaws
pub mod GatheringLaws
pub mod HeaderLaws
pub mod OpeningLaws
pub mod RecordLaws
pub mod StoreLaws
