-- No record lowers a counter.
use Rattle.std.proofs.Common.{◌≡◌, ℕ, Bool, true, false, List, [], ◌∷◌, ◌++◌, Option, Some, None, Result, Ok, Err, refl, sym, ◌∙◌, ap, subst, nat_lt, nat_le, ◌&&◌, not, if◌then◌else◌, arith}
use Rattle.std.proofs.lemmas.Bool.{and_parts, leb-true}
use Rattle.osd_capability.specs.Layout.{is_format}
use Rattle.zone_place.specs.declared.loads.TheConstants.{MAX_DRIVES}
use Rattle.layout_ops.specs.declared.envelope.Envelope.{Envelope}
use Rattle.layout_ops.specs.declared.envelope.Envelope.TheVariants as envelope
use Rattle.layout_ops.specs.declared.err.OpErr.{OpErr}
use Rattle.layout_ops.specs.Reading.{envelope_of}
use Rattle.layout_types.specs.declared.err.LayoutErr.{LayoutErr}
use Rattle.layout_types.specs.Grammar.{whole}
use Rattle.server_rules.specs.declared.files.File.{File}
use Rattle.server_rules.specs.declared.files.Kept.{Kept}
use Rattle.server_rules.specs.declared.server.Server.{Server}
use Rattle.server_rules.specs.Files.{add_file, file_at, put_file}
use Rattle.server_rules.specs.Making.{new_server}
use Rattle.server_rules.specs.Slots.{keep}
use Rattle.server_rules.specs.Zoning.{put_in_zone}
use Rattle.server_entries.specs.declared.entry.Counters.{Counters}
use Rattle.server_entries.specs.declared.entry.Entry.{Entry}
use Rattle.server_entries.specs.declared.entry.Entry.TheVariants as entry
use Rattle.server_entries.specs.declared.entry.SlotEntry.{SlotEntry}
use Rattle.server_entries.specs.declared.record.Record.{Record}
use Rattle.server_entries.specs.Applying.{answered, applied, applied_all, applied_to, can_answer, can_count, changed_at, counted, holder_of, next_grant_of, returns_at}
use Rattle.server_entries.specs.Changes.{can_change, can_grant, changed, granted, has_number, is_in_zone, is_known, kept_file, returned}
use Rattle.server_entries.specs.Making.{can_make, new_file, put_drive}
use Rattle.server_entries.specs.Reading.{record_in}
use Rattle.server_journal.specs.Counters.{CountsOn}
use Rattle.server_journal.specs.declared.made.MadeObject.{MadeObject}
use Rattle.server_journal.specs.Made.{made_in}
use Rattle.server_journal.specs.Records.{LeadTo, after_reading, after_record, replayed, unless_made, unless_remarked}
use Rattle.server_notes.specs.Reading.{remark_in}
use Rattle.server_notes.specs.declared.remark.Remark.{Remark}
use Rattle.server_journal.proofs.RecordLaws.{replayed-none, replayed-then}

some_is : (s t : Server) → Some s ≡ Some t → s ≡ t
some_is s t is = cc is

none_is : {A : Type 0} (t : Server) → None ≡ Some t → A
none_is t is = absurd (cc is)

pub counts_same : (s : Server) → CountsOn s s
counts_same s = record { grants = omega arith; objects = omega arith; nonces = omega arith; recalls = omega arith }

pub counts_then : (s t u : Server) → CountsOn s t → CountsOn t u → CountsOn s u
counts_then s t u first next = record {
  grants = omega (arith, first.grants, next.grants);
  objects = omega (arith, first.objects, next.objects);
  nonces = omega (arith, first.nonces, next.nonces);
  recalls = omega (arith, first.recalls, next.recalls);
}

-- ---- one entry

-- what it makes, if something can be made of it
made : (can : Bool) (s u t : Server) → CountsOn s u → (if can then Some u else None) ≡ Some t → CountsOn s t
made true s u t counts is = subst (λ (x : Server). CountsOn s x) (some_is u t is) counts
made false s u t counts is = none_is t is

at_file : (s : Server) (n : ℕ) (can : Kept → Bool) (does : Kept → Kept) (o : Option File) (t : Server) →
    changed_at s n can does o ≡ Some t → CountsOn s t
at_file s n can does None t is = none_is t is
at_file s n can does (Some f) t is =
    made (can f.kept) s (record s { files = put_file s.files n (kept_file (does f.kept)) }) t (counts_same s) is

returning : (s : Server) (grant : ℕ) (o : Option ℕ) (t : Server) → returns_at s grant o ≡ Some t → CountsOn s t
returning s grant None t is = none_is t is
returning s grant (Some file) t is = at_file s file (λ f. has_number f.grants grant) (returned grant) (file_at s.files file) t is

counting : (s : Server) (c : Counters) → can_count s c ≡ true → CountsOn s (counted s c)
counting s c can =
    let halves =
    and_parts (nat_le s.next_grant (next_grant_of c.next_grant) && nat_le s.next_object c.next_object)
    (nat_le s.next_nonce c.next_nonce && nat_le s.next_recall c.next_recall) can in
    let first = and_parts (nat_le s.next_grant (next_grant_of c.next_grant)) (nat_le s.next_object c.next_object) halves.0 in
    let last = and_parts (nat_le s.next_nonce c.next_nonce) (nat_le s.next_recall c.next_recall) halves.1 in
    record {
      grants = leb-true s.next_grant (next_grant_of c.next_grant) first.0;
      objects = leb-true s.next_object c.next_object first.1;
      nonces = leb-true s.next_nonce c.next_nonce last.0;
      recalls = leb-true s.next_recall c.next_recall last.1;
    }

counts_made : (can : Bool) (s : Server) (c : Counters) (t : Server) → can_count s c ≡ can →
    (if can then Some (counted s c) else None) ≡ Some t → CountsOn s t
counts_made true s c t can is = made true s (counted s c) t (counting s c can) is
counts_made false s c t can is = none_is t is

answering : (s : Server) (v : SlotEntry) (r : Result Envelope OpErr) (t : Server) → answered s v r ≡ Some t → CountsOn s t
answering s v (Ok (envelope.Answer a)) t is =
    made (can_answer s v a) s (record s { slots = keep s.slots (record { client = v.client; last = v.sequence; kept = a }) }) t
    (counts_same s) is
answering s v (Ok (envelope.Request q)) t is = none_is t is
answering s v (Ok (envelope.Recall r)) t is = none_is t is
answering s v (Ok (envelope.RecallAnswer r)) t is = none_is t is
answering s v (Ok (envelope.Order o)) t is = none_is t is
answering s v (Ok (envelope.OrderAnswer o)) t is = none_is t is
answering s v (Err e) t is = none_is t is

entry_counts : (s : Server) (e : Entry) (t : Server) → applied s e ≡ Some t → CountsOn s t
unfolding applied
entry_counts s (entry.Drive d) t is =
    made (nat_lt d.number MAX_DRIVES) s (record s { drives = put_drive s.drives d }) t (counts_same s) is
entry_counts s (entry.File f) t is =
    made (can_make s f) s (record s { files = add_file s.files (new_file f) }) t (counts_same s) is
entry_counts s (entry.Grant g) t is = at_file s g.file (can_grant s g) (granted g) (file_at s.files g.file) t is
entry_counts s (entry.Return grant) t is = returning s grant (holder_of s.files grant) t is
entry_counts s (entry.Change file change) t is = at_file s file (can_change s change) (changed change) (file_at s.files file) t is
entry_counts s (entry.Counters c) t is = counts_made (can_count s c) s c t refl is
entry_counts s (entry.Slot v) t is = answering s v (envelope_of v.answer) t is
entry_counts s (entry.Format format) t is = made (is_format format) s (record s { format = format }) t (counts_same s) is
entry_counts s (entry.Zone drive zone) t is =
    made (is_known drive s.drives && not (is_in_zone drive s.drives)) s (record s { drives = put_in_zone s.drives drive zone }) t
    (counts_same s) is

-- ---- one after another

applied-none : (es : List Entry) → applied_to None es ≡ None
applied-none [] = refl
applied-none (e ∷ es) = applied-none es

on_from : (s : Server) (o : Option Server) (es : List Entry) (t : Server) → ((u : Server) → o ≡ Some u → CountsOn s u)
    → ((u : Server) → applied_to (Some u) es ≡ Some t → CountsOn u t) → applied_to o es ≡ Some t → CountsOn s t
on_from s None es t first next is = none_is t (sym (applied-none es) ∙ is)
on_from s (Some u) es t first next is = counts_then s u t (first u refl) (next u is)

-- entries lower no counter
pub entries_count : (es : List Entry) (s t : Server) → applied_all s es ≡ Some t → CountsOn s t
entries_count [] s t is = made true s s t (counts_same s) is
entries_count (e ∷ es) s t is = on_from s (applied s e) es t (λ u. entry_counts s e u) (λ u. entries_count es u t) is

reading_counts : (s : Server) (r : Result Record LayoutErr) (t : Server) → after_reading s r ≡ Some t → CountsOn s t
reading_counts s (Ok r) t is = entries_count r.entries s t is
reading_counts s (Err e) t is = none_is t is

remark_counts : (s : Server) (n : Option Remark) (r : Result Record LayoutErr) (t : Server)
    → unless_remarked s n r ≡ Some t → CountsOn s t
remark_counts s None r t is = reading_counts s r t is
remark_counts s (Some n) r t is = made true s s t (counts_same s) is

record_counts : (s : Server) (o : Option MadeObject) (n : Option Remark) (r : Result Record LayoutErr) (t : Server)
    → unless_made s o n r ≡ Some t → CountsOn s t
record_counts s None n r t is = remark_counts s n r t is
record_counts s (Some m) n r t is = made true s s t (counts_same s) is

records_from : (s : Server) (o : Option Server) (records : List (List ℕ)) (t : Server) →
    ((u : Server) → o ≡ Some u → CountsOn s u)
    → ((u : Server) → replayed (Some u) records ≡ Some t → CountsOn u t) → replayed o records ≡ Some t → CountsOn s t
records_from s None records t first next is = none_is t (sym (replayed-none records) ∙ is)
records_from s (Some u) records t first next is = counts_then s u t (first u refl) (next u is)

records_count : (records : List (List ℕ)) (s t : Server) → replayed (Some s) records ≡ Some t → CountsOn s t
records_count [] s t is = made true s s t (counts_same s) is
records_count (bytes ∷ records) s t is =
    records_from s (after_record s bytes) records t
    (λ u. record_counts s (made_in bytes) (remark_in bytes) (whole record_in bytes) u)
    (λ u. records_count records u t) is

-- and so no records that are added
pub counters_never_fall : (records more : List (List ℕ)) (s t : Server) → LeadTo records s → LeadTo (records ++ more) t →
    CountsOn s t
counters_never_fall records more s t leads longer = records_count more s t
    (ap (λ (o : Option Server). replayed o more) (sym leads) ∙ sym (replayed-then (Some (new_server [])) records more) ∙ longer)
