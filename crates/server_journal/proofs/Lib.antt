pub mod ContentLaws
pub mod CounterLaws
pub mod JournalLaws
pub mod OpeningLaws
pub mod RecordLaws
pub mod StepLaws
