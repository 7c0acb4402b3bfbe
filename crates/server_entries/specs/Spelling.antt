-- Entries and records as XDR spells them, and those that have a spelling.
use Rattle.std.specs.Prelude.{◌≡◌, ⊤, ℕ, ◌<◌, ◌≤◌, ◌^◌, List, ◌++◌, length}
use Rattle.data_map.specs.Check.{HasAlgorithm}
use Rattle.osd_capability.specs.declared.keys.TheConstants.{DRIVE_KEY_BYTES}
use Rattle.xdr_codec.specs.Items.{u32_item, u64_item, bool_item, fixed_item, opaque_item}
use Rattle.layout_types.specs.Grammar.{list_item}
use Rattle.layout_types.specs.Spelling.{ListFits, map_item, MapFits}
use Rattle.server_entries.specs.State.{DriveEntry, Placed, FileEntry, Counters, SlotEntry, FileChange, Size, FenceStarted, Fenced, Repaired, Missing, Present, Ready, Format, Zoned, Entry, Grant}
use Rattle.server_entries.specs.declared.entry.Entry.TheVariants as entry
use Rattle.server_entries.specs.declared.fields.TheConstants.{MAX_ANSWER}
use Rattle.server_entries.specs.declared.record.Record.{Record}

-- ---- the fields of an entry

abbrev pub drive_item : DriveEntry → List ℕ
drive_item v = u32_item v.number ++ (fixed_item v.key ++ (u64_item v.capacity ++ bool_item v.online))

abbrev pub DriveFits : DriveEntry → Type 0
DriveFits v = record { number : v.number < 2 ^ 32; key : length v.key ≡ DRIVE_KEY_BYTES; capacity : v.capacity < 2 ^ 64 }

abbrev pub placed_item : Placed → List ℕ
placed_item v = u32_item v.drive ++ u64_item v.object

abbrev pub PlacedFits : Placed → Type 0
PlacedFits v = record { drive : v.drive < 2 ^ 32; object : v.object < 2 ^ 64 }

abbrev pub file_item : FileEntry → List ℕ
file_item v =
    u32_item v.file ++ (map_item v.map
    ++ (u32_item v.tag ++ (u32_item v.format ++ list_item placed_item v.components)))

abbrev pub FileFits : FileEntry → Type 0
FileFits v = record {
  file : v.file < 2 ^ 32;
  map : MapFits v.map;
  tag : v.tag < 2 ^ 32;
  format : v.format < 2 ^ 32;
  components : ListFits PlacedFits v.components;
}

abbrev pub grant_item : Grant → List ℕ
grant_item v =
    u32_item v.number ++ (u32_item v.client ++ (u32_item v.file
    ++ (bool_item v.rw ++ (bool_item v.extending
    ++ (u64_item v.first ++ (u64_item v.end ++ u64_item v.expiry))))))

abbrev pub GrantFits : Grant → Type 0
GrantFits v = record {
  number : v.number < 2 ^ 32;
  client : v.client < 2 ^ 32;
  file : v.file < 2 ^ 32;
  first : v.first < 2 ^ 64;
  end : v.end < 2 ^ 64;
  expiry : v.expiry < 2 ^ 64;
}

abbrev pub counters_item : Counters → List ℕ
counters_item v =
    u32_item v.next_grant ++ (u64_item v.next_object ++ (u64_item v.next_nonce ++ u64_item v.next_recall))

abbrev pub CountersFit : Counters → Type 0
CountersFit v = record {
  next_grant : v.next_grant < 2 ^ 32;
  next_object : v.next_object < 2 ^ 64;
  next_nonce : v.next_nonce < 2 ^ 64;
  next_recall : v.next_recall < 2 ^ 64;
}

abbrev pub IsAnswerBody : List ℕ → Type 0
IsAnswerBody bytes = length bytes ≤ MAX_ANSWER

abbrev pub slot_item : SlotEntry → List ℕ
slot_item v = u32_item v.client ++ (u32_item v.sequence ++ opaque_item v.answer)

abbrev pub SlotFits : SlotEntry → Type 0
SlotFits v = record { client : v.client < 2 ^ 32; sequence : v.sequence < 2 ^ 32; answer : IsAnswerBody v.answer }

-- ---- changes of a file

-- the kind, the file, and what the kind announces
abbrev pub change_item : (file : ℕ) → FileChange → List ℕ
change_item file (Size size) = u32_item 5 ++ (u32_item file ++ u64_item size)
change_item file FenceStarted = u32_item 6 ++ u32_item file
change_item file (Fenced tag format) = u32_item 7 ++ (u32_item file ++ (u32_item tag ++ u32_item format))
change_item file Repaired = u32_item 8 ++ u32_item file
change_item file (Missing component) = u32_item 9 ++ (u32_item file ++ u32_item component)
change_item file (Present component drive object) =
    u32_item 10 ++ (u32_item file ++ (u32_item component ++ (u32_item drive ++ u64_item object)))
change_item file Ready = u32_item 14 ++ u32_item file
change_item file (Format format) = u32_item 15 ++ (u32_item file ++ u32_item format)
change_item file Zoned = u32_item 17 ++ u32_item file

abbrev pub ChangeFits : FileChange → Type 0
ChangeFits (Size size) = size < 2 ^ 64
ChangeFits FenceStarted = ⊤
ChangeFits (Fenced tag format) = (tag < 2 ^ 32) × (format < 2 ^ 32)
ChangeFits Repaired = ⊤
ChangeFits (Missing component) = component < 2 ^ 32
ChangeFits (Present component drive object) = (component < 2 ^ 32) × (drive < 2 ^ 32) × (object < 2 ^ 64)
ChangeFits Ready = ⊤
ChangeFits (Format format) = format < 2 ^ 32
ChangeFits Zoned = ⊤

-- ---- entries and records

-- the kind, and what it announces
abbrev pub entry_item : Entry → List ℕ
entry_item (entry.Drive v) = u32_item 1 ++ drive_item v
entry_item (entry.File v) = u32_item 2 ++ file_item v
entry_item (entry.Grant v) = u32_item 3 ++ grant_item v
entry_item (entry.Return grant) = u32_item 4 ++ u32_item grant
entry_item (entry.Change file change) = change_item file change
entry_item (entry.Counters v) = u32_item 11 ++ counters_item v
entry_item (entry.Slot v) = u32_item 12 ++ slot_item v
entry_item (entry.Format format) = u32_item 13 ++ u32_item format
entry_item (entry.Zone drive zone) = u32_item 16 ++ (u32_item drive ++ u32_item zone)

abbrev pub EntryFits : Entry → Type 0
EntryFits (entry.Drive v) = DriveFits v
EntryFits (entry.File v) = FileFits v
EntryFits (entry.Grant v) = GrantFits v
EntryFits (entry.Return grant) = grant < 2 ^ 32
EntryFits (entry.Change file change) = (file < 2 ^ 32) × ChangeFits change
EntryFits (entry.Counters v) = CountersFit v
EntryFits (entry.Slot v) = SlotFits v
EntryFits (entry.Format format) = format < 2 ^ 32
EntryFits (entry.Zone drive zone) = (drive < 2 ^ 32) × (zone < 2 ^ 32)

-- a list of entries
abbrev pub record_item : Record → List ℕ
record_item v = list_item entry_item v.entries

abbrev pub RecordFits : Record → Type 0
RecordFits v = ListFits EntryFits v.entries

-- ---- what the types don't keep of that

-- an algorithm that there is, and not too many components
abbrev pub FileWritable : FileEntry → Type 0
FileWritable v = HasAlgorithm v.map × ListFits (λ (p : Placed). ⊤) v.components

abbrev pub EntryWritable : Entry → Type 0
EntryWritable (entry.Drive v) = ⊤
EntryWritable (entry.File v) = FileWritable v
EntryWritable (entry.Grant v) = ⊤
EntryWritable (entry.Return grant) = ⊤
EntryWritable (entry.Change file change) = ⊤
EntryWritable (entry.Counters v) = ⊤
EntryWritable (entry.Slot v) = IsAnswerBody v.answer
EntryWritable (entry.Format format) = ⊤
EntryWritable (entry.Zone drive zone) = ⊤

-- not too many entries, each of which may be written
abbrev pub RecordWritable : Record → Type 0
RecordWritable v = ListFits EntryWritable v.entries
