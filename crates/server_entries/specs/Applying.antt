-- What entries make of a server on which no job runs: `None` from one on that nothing can be made of.
use Rattle.std.specs.Prelude.{ℕ, Bool, true, false, List, [], ◌∷◌, Option, Some, None, Result, Ok, ◌+◌, ◌==◌, ◌&&◌, not, nat_lt, nat_le, if◌then◌else◌}
use Rattle.osd_capability.specs.Layout.{is_format}
use Rattle.zone_place.specs.declared.loads.TheConstants.{MAX_DRIVES}
use Rattle.layout_ops.specs.declared.envelope.Envelope.{Envelope}
use Rattle.layout_ops.specs.declared.envelope.Envelope.TheVariants as envelope
use Rattle.layout_ops.specs.declared.err.OpErr.{OpErr}
use Rattle.layout_ops.specs.Reading.{envelope_of}
use Rattle.server_rules.specs.declared.limits.TheConstants.{GREATEST_GRANT, MAX_CLIENT}
use Rattle.server_rules.specs.declared.server.Server.{Server}
use Rattle.server_rules.specs.declared.files.File.{File}
use Rattle.server_rules.specs.declared.files.Kept.{Kept}
use Rattle.layout_ops.specs.declared.messages.Answer.{Answer}
use Rattle.server_rules.specs.Files.{file_at, put_file, add_file}
use Rattle.server_rules.specs.Slots.{Admit, New, Again, Misordered, admit, keep, slot_of}
use Rattle.server_rules.specs.Zoning.{put_in_zone}
use Rattle.server_entries.specs.State.{Counters, SlotEntry, Entry}
use Rattle.server_entries.specs.declared.entry.Entry.TheVariants as entry
use Rattle.server_entries.specs.declared.record.Record.{Record}
use Rattle.server_entries.specs.Changes.{is_in_zone, is_known, kept_file, has_number, can_grant, granted, returned, can_change, changed}
use Rattle.server_entries.specs.Making.{put_drive, can_make, new_file}

-- ---- at a file

-- there is such a file, of which this holds
abbrev pub can_at : (can : Kept → Bool) → Option File → Bool
can_at can None = false
can_at can (Some f) = can f.kept

abbrev pub changed_at : Server → (file : ℕ) → (can : Kept → Bool) → (does : Kept → Kept) → Option File → Option Server
changed_at s n can does None = None
changed_at s n can does (Some f) =
    if can f.kept then Some (record s { files = put_file s.files n (kept_file (does f.kept)) }) else None

-- the file of that number is changed, where there is one and it can be
abbrev pub change_file : Server → (file : ℕ) → (can : Kept → Bool) → (does : Kept → Kept) → Option Server
change_file s n can does = changed_at s n can does (file_at s.files n)

-- the first file on which a grant of that number is live
unfoldable pub holder_of : List File → (grant : ℕ) → Option ℕ
holder_of [] n = None
holder_of (f ∷ fs) n = if has_number f.kept.grants n then Some f.kept.number else holder_of fs n

abbrev pub returns_at : Server → (grant : ℕ) → (file : Option ℕ) → Option Server
returns_at s n None = None
returns_at s n (Some file) = change_file s file (λ f. has_number f.grants n) (returned n)

-- ---- counters

-- the number of the next grant, above GREATEST_GRANT where none is left
abbrev pub next_grant_of : (told : ℕ) → ℕ
next_grant_of told = if told == 0 then GREATEST_GRANT + 1 else told

-- no counter falls
abbrev pub can_count : Server → Counters → Bool
can_count s c =
    (nat_le s.next_grant (next_grant_of c.next_grant) && nat_le s.next_object c.next_object)
    && (nat_le s.next_nonce c.next_nonce && nat_le s.next_recall c.next_recall)

abbrev pub counted : Server → Counters → Server
counted s c = record s {
  next_grant = next_grant_of c.next_grant;
  next_object = c.next_object;
  next_nonce = c.next_nonce;
  next_recall = c.next_recall;
}

-- ---- slots

abbrev pub is_new : Admit → Bool
is_new New = true
is_new (Again kept) = false
is_new (Misordered expected) = false

-- the answer is that to the client's request of the slot's number, which is its next
abbrev pub can_answer : Server → SlotEntry → Answer → Bool
can_answer s v a =
    (nat_le v.client MAX_CLIENT && is_new (admit (slot_of s.slots v.client) v.sequence))
    && ((a.client == v.client) && (a.sequence == v.sequence))

abbrev pub answered : Server → SlotEntry → Result Envelope OpErr → Option Server
answered s v (Ok (envelope.Answer a)) =
    if can_answer s v a
    then Some (record s { slots = keep s.slots (record { client = v.client; last = v.sequence; kept = a }) }) else None
answered s v r = None

-- ---- entries

-- what an entry makes of the server
unfoldable pub applied : Server → Entry → Option Server
applied s (entry.Drive d) = if nat_lt d.number MAX_DRIVES then Some (record s { drives = put_drive s.drives d }) else None
applied s (entry.File f) = if can_make s f then Some (record s { files = add_file s.files (new_file f) }) else None
applied s (entry.Grant g) = change_file s g.file (can_grant s g) (granted g)
applied s (entry.Return grant) = returns_at s grant (holder_of s.files grant)
applied s (entry.Change file change) = change_file s file (can_change s change) (changed change)
applied s (entry.Counters c) = if can_count s c then Some (counted s c) else None
applied s (entry.Slot v) = answered s v (envelope_of v.answer)
applied s (entry.Format format) = if is_format format then Some (record s { format = format }) else None
applied s (entry.Zone drive zone) =
    if is_known drive s.drives && not (is_in_zone drive s.drives)
    then Some (record s { drives = put_in_zone s.drives drive zone }) else None

-- ---- one after another

abbrev pub after_entry : Option Server → Entry → Option Server
after_entry None e = None
after_entry (Some s) e = applied s e

-- entries, the first of them first
abbrev pub applied_to : Option Server → List Entry → Option Server
applied_to s [] = s
applied_to s (e ∷ es) = applied_to (after_entry s e) es

abbrev pub applied_all : Server → List Entry → Option Server
applied_all s es = applied_to (Some s) es

-- the entries of records, the first of them first
abbrev pub replayed_to : Option Server → List Record → Option Server
replayed_to s [] = s
replayed_to s (r ∷ rs) = replayed_to (applied_to s r.entries) rs
