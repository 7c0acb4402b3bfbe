pub mod SlotLaws
pub mod GrantLists
pub mod TableLaws
