pub mod Described
pub mod ShortRecords
pub mod KeptLaws
pub mod StoredLaws
pub mod OpenedLaws
