-- Entries and their parts, under one name each.
pub use Rattle.server_entries.specs.declared.entry.DriveEntry.{DriveEntry}
pub use Rattle.server_entries.specs.declared.entry.Placed.{Placed}
pub use Rattle.server_entries.specs.declared.entry.FileEntry.{FileEntry}
pub use Rattle.server_entries.specs.declared.entry.Counters.{Counters}
pub use Rattle.server_entries.specs.declared.entry.SlotEntry.{SlotEntry}
pub use Rattle.server_entries.specs.declared.entry.FileChange.{FileChange}
pub use Rattle.server_entries.specs.declared.entry.FileChange.TheVariants.{Size, FenceStarted, Fenced, Repaired, Missing, Present, Ready, Format, Zoned}
pub use Rattle.server_entries.specs.declared.entry.Entry.{Entry}
pub use Rattle.server_entries.specs.declared.entry.Entry.TheVariants as entry
pub use Rattle.server_rules.specs.declared.grants.Grant.{Grant}
