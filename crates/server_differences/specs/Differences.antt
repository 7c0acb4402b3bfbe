-- The entries that make of what one server keeps what another keeps: what differs, in this order.
use Rattle.std.specs.Prelude.{ℕ, Bool, true, false, List, [], ◌∷◌, ◌++◌, Option, Some, None, ◌+◌, ◌==◌, ◌&&◌, ◌||◌, not, nat_lt, nat_eq, find, is_some, if◌then◌else◌}
use Rattle.std.specs.Bool.{beq}
use Rattle.std.specs.Cmp.Lexicographic.{pointwise}
use Rattle.server_rules.specs.declared.limits.TheConstants.{GREATEST_GRANT}
use Rattle.server_rules.specs.declared.server.Drive.{Drive}
use Rattle.server_rules.specs.declared.server.Outgoing.TheVariants.{Answers}
use Rattle.server_rules.specs.declared.server.Server.{Server}
use Rattle.server_rules.specs.declared.server.Slot.{Slot}
use Rattle.server_rules.specs.declared.files.File.{File}
use Rattle.server_rules.specs.Envelopes.{bytes_of}
use Rattle.server_rules.specs.Files.{file_at}
use Rattle.server_rules.specs.Slots.{slot_of}
use Rattle.server_entries.specs.declared.entry.Counters.{Counters}
use Rattle.server_entries.specs.declared.entry.Entry.{Entry}
use Rattle.server_entries.specs.declared.entry.Entry.TheVariants as entry
use Rattle.server_differences.specs.FileDifferences.{file_entries, only}

-- ---- drives

-- all of it is as it was, but its zone
abbrev pub is_same_drive : (was : Option Drive) → Drive → Bool
is_same_drive None d = false
is_same_drive (Some was) d = (pointwise nat_eq was.key d.key && (was.capacity == d.capacity)) && beq was.online d.online

abbrev pub was_in_zone : (was : Option Drive) → Bool
was_in_zone None = false
was_in_zone (Some was) = is_some was.zone

abbrev pub zone_entries : (was_in_zone : Bool) → (drive : ℕ) → (zone : Option ℕ) → List Entry
zone_entries was n None = []
zone_entries was n (Some zone) = only (not was) (entry.Zone n zone)

abbrev pub drive_entry : Drive → Entry
drive_entry d = entry.Drive (record { number = d.number; key = d.key; capacity = d.capacity; online = d.online })

abbrev pub drive_entries : (was : Option Drive) → Drive → List Entry
drive_entries was d = only (not (is_same_drive was d)) (drive_entry d) ++ zone_entries (was_in_zone was) d.number d.zone

abbrev pub drives_entries : (were : List Drive) → List Drive → List Entry
drives_entries ws [] = []
drives_entries ws (d ∷ ds) = drive_entries (find (λ w. w.number == d.number) ws) d ++ drives_entries ws ds

-- ---- numbers

abbrev pub has_same_counters : (before now : Server) → Bool
has_same_counters b s =
    ((b.next_grant == s.next_grant) && (b.next_object == s.next_object))
    && ((b.next_nonce == s.next_nonce) && (b.next_recall == s.next_recall))

-- 0 stands for the next grant where none is left
abbrev pub counters_of : Server → Counters
counters_of s = record {
  next_grant = if nat_lt GREATEST_GRANT s.next_grant then 0 else s.next_grant;
  next_object = s.next_object;
  next_nonce = s.next_nonce;
  next_recall = s.next_recall;
}

abbrev pub number_entries : (before now : Server) → List Entry
number_entries b s =
    only (not (b.format == s.format)) (entry.Format s.format)
    ++ only (not (has_same_counters b s)) (entry.Counters (counters_of s))

-- ---- slots

abbrev pub slot_entry : Slot → Entry
slot_entry s = entry.Slot (record { client = s.client; sequence = s.last; answer = bytes_of (Answers s.kept) })

-- its client has the answer that it had
abbrev pub has_same_answer : (was : Option Slot) → Slot → Bool
has_same_answer None s = false
has_same_answer (Some was) s = was.last == s.last

abbrev pub slots_entries : (were : List Slot) → List Slot → List Entry
slots_entries ws [] = []
slots_entries ws (s ∷ ss) = only (not (has_same_answer (slot_of ws s.client) s)) (slot_entry s) ++ slots_entries ws ss

-- ---- all

abbrev pub files_entries : (were : List File) → List File → List Entry
files_entries ws [] = []
files_entries ws (f ∷ fs) = file_entries (file_at ws f.kept.number) f.kept ++ files_entries ws fs

-- drives first, since files stand on them; and counters before what they count
abbrev pub differences : (before now : Server) → List Entry
differences b s =
    drives_entries b.drives s.drives
    ++ (number_entries b s ++ (files_entries b.files s.files ++ slots_entries b.slots s.slots))
