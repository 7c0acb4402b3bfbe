pub mod RowLaws
pub mod KeyLaws
pub mod SealLaws
pub mod SizeLaws
pub mod RecallLaws
