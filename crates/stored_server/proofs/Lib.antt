pub mod DifferenceLaws
pub mod JournalLaws
pub mod LackingLaws
pub mod OpeningLaws
pub mod PreparingLaws
pub mod ServiceLaws
pub mod StoppingLaws
pub mod TellingLaws
