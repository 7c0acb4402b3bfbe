-- The records that are added together: what they make of the server, of the objects and of the notes.
use Rattle.std.proofs.Common.{◌≡◌, ◌⊎◌, ◌≤◌, inl, inr, ℕ, List, [], ◌∷◌, ◌++◌, length, Bool, true, false, Option, Some, Ok, refl, sym, ◌∙◌, ap, subst, append-nil, append_assoc}
use Rattle.std.specs.Prelude.{◌==◌}
use Rattle.std.proofs.lemmas.Bool.{cases_Bool, eqb-true}
use Rattle.std.proofs.lemmas.List.Concat.{flat_map-cons}
use Rattle.std.proofs.lemmas.List.Elements.{filter_map-append}
use Rattle.osd_disk.specs.Crashes.{LeavesOnly}
use Rattle.osd_disk.specs.declared.disk.Disk.{Ghosts}
use Rattle.gate_log.specs.Together.{HaveBodies}
use Rattle.gate_log.specs.declared.entries.Entries.{Entries}
use Rattle.gate_log.specs.declared.log.GateLog.{GateLog}
use Rattle.gate_log.specs.Logs.{IsLog}
use Rattle.gate_log.specs.Standing.{IsAtRest, disk_of}
use Rattle.layout_types.specs.Grammar.{whole}
use Rattle.layout_types.specs.declared.parts.TheConstants.{MAX_MEMBERS}
use Rattle.server_rules.specs.declared.notes.Note.{Note}
use Rattle.server_rules.specs.declared.server.Server.{Server}
use Rattle.server_entries.specs.Applying.{applied_all}
use Rattle.server_entries.specs.Reading.{record_in}
use Rattle.server_entries.specs.Spelling.{record_item}
use Rattle.server_entries.specs.declared.entry.Entry.{Entry}
use Rattle.server_entries.specs.declared.record.Record.{Record}
use Rattle.server_notes.specs.Asking.{asking, asks, picked_of, without}
use Rattle.server_notes.specs.Reading.{remark_in}
use Rattle.server_notes.specs.Spelling.{RemarkFits, remark_item}
use Rattle.server_notes.specs.declared.remark.Remark.{Remark}
use Rattle.server_notes.specs.declared.remark.Remark.TheVariants.{Asks, Dealt}
use Rattle.server_notes.proofs.NoteLaws.{picked_first}
use Rattle.server_notes.proofs.RemarkLaws.{read_again}
use Rattle.server_journal.specs.Header.{journal_header}
use Rattle.server_journal.specs.Journals.{IsJournalWith, KeepsServer}
use Rattle.server_journal.specs.Made.{made_by, made_in}
use Rattle.server_journal.specs.Notes.{AllFit, FitsIf, after_body, and_remark, body_if, entry_bodies, note_bodies, notes_after, notes_kept, step_bodies, unless_object}
use Rattle.server_journal.specs.declared.made.MadeObject.{MadeObject}
use Rattle.server_journal.specs.Records.{LeadTo, replayed}
use Rattle.server_journal.proofs.JournalLaws.{weaker}
use Rattle.server_journal.proofs.RecordLaws.{entries_lead, entries_only, entries_silent, lead_on, no_object, none_lead, object_leads, one_object, remark_leads, remark_only, replayed-then}

pub notes_after-then : (notes : List Note) (records more : List (List ℕ)) →
    notes_after notes (records ++ more) ≡ notes_after (notes_after notes records) more
notes_after-then notes [] more = refl
notes_after-then notes (r ∷ records) more = notes_after-then (after_body notes r) records more

-- from a server with these objects and notes, the bodies lead to that one with those
pub record Lead (s : Server) (made : List MadeObject) (notes : List Note) (bodies : List (List ℕ)) (t : Server)
    (objects : List MadeObject) (left : List Note) : Type 0 where
  pub server : replayed (Some s) bodies ≡ Some t
  pub made_more : made ++ made_by bodies ≡ objects
  pub noted : notes_after notes bodies ≡ left

lead_then : (s : Server) (made : List MadeObject) (notes : List Note) (bodies : List (List ℕ)) (t : Server)
    (objects : List MadeObject) (left : List Note) (more : List (List ℕ)) (u : Server) (all : List MadeObject) (last : List Note)
    → Lead s made notes bodies t objects left → Lead t objects left more u all last
    → Lead s made notes (bodies ++ more) u all last
lead_then s made notes bodies t objects left more u all last first next = record {
  server = replayed-then (Some s) bodies more ∙ ap (λ (o : Option Server). replayed o more) first.server ∙ next.server;
  made_more = ap (λ (ms : List MadeObject). made ++ ms) (filter_map-append made_in bodies more)
      ∙ sym (append_assoc made (made_by bodies) (made_by more))
      ∙ ap (λ (ms : List MadeObject). ms ++ made_by more) first.made_more ∙ next.made_more;
  noted = notes_after-then notes bodies more ∙ ap (λ (ns : List Note). notes_after ns more) first.noted ∙ next.noted;
}

-- no bodies lead nowhere
none_leads : (s : Server) (made : List MadeObject) (notes : List Note) → Lead s made notes [] s made notes
none_leads s made notes = record { server = refl; made_more = append-nil made; noted = refl }

-- ---- one body

-- that of an object
pub object_lead : (s : Server) (made : List MadeObject) (notes : List Note) (bytes : List ℕ) (m : MadeObject)
    → made_in bytes ≡ Some m → Lead s made notes (bytes ∷ []) s (made ++ m ∷ []) notes
object_lead s made notes bytes m one = record {
  server = object_leads s bytes m one;
  made_more = ap (λ (ms : List MadeObject). made ++ ms) (one_object bytes m one);
  noted = ap (λ (o : Option MadeObject). and_remark notes (unless_object o (remark_in bytes))) one;
}

-- that of a remark
remark_lead : (s : Server) (made : List MadeObject) (notes : List Note) (r : Remark) → RemarkFits r
    → Lead s made notes (remark_item r ∷ []) s made (and_remark notes (Some r))
remark_lead s made notes r fits = record {
  server = remark_leads s (remark_item r) r (remark_only r) (read_again r fits);
  made_more = ap (λ (ms : List MadeObject). made ++ ms) (no_object (remark_item r) (remark_only r)) ∙ append-nil made;
  noted = ap (λ (o : Option MadeObject). and_remark notes (unless_object o (remark_in (remark_item r)))) (remark_only r)
      ∙ ap (λ (x : Option Remark). and_remark notes x) (read_again r fits);
}

-- that an operator has dealt with the notes of a file
pub dealt_lead : (s : Server) (made : List MadeObject) (notes : List Note) (file : ℕ) → RemarkFits (Dealt file)
    → Lead s made notes (remark_item (Dealt file) ∷ []) s made (without notes file)
dealt_lead s made notes file fits = remark_lead s made notes (Dealt file) fits

-- ---- those of a step

-- its entries
entries_leads : (s t : Server) (made : List MadeObject) (notes : List Note) (r : Record) → length r.entries ≤ MAX_MEMBERS
    → whole record_in (record_item r) ≡ Ok r → applied_all s r.entries ≡ Some t
    → Lead s made notes (entry_bodies r) t made notes
entries_leads s t made notes r few spelled makes = elim (cases_Bool (length r.entries == 0)) [
  | inl none ↦
      let same = none_lead s t r (eqb-true (length r.entries) 0 none) makes in
      rw (none, ← same) (none_leads s made notes)
  | inr some ↦ rw some (record {
    server = entries_lead s t r (record_item r) (entries_only r few) (entries_silent r few) spelled makes;
    made_more = ap (λ (ms : List MadeObject). made ++ ms) (no_object (record_item r) (entries_only r few)) ∙ append-nil made;
    noted = ap (λ (o : Option MadeObject). and_remark notes (unless_object o (remark_in (record_item r)))) (entries_only r few)
        ∙ ap (λ (x : Option Remark). and_remark notes x) (entries_silent r few);
  })
]

-- the body of a note, if it asks for something
note_leads : (s : Server) (made : List MadeObject) (notes : List Note) (n : Note) (does : Bool) → FitsIf does n
    → Lead s made notes (body_if does n) s made (notes ++ picked_of does n)
note_leads s made notes n true fits = remark_lead s made notes (Asks n) fits
note_leads s made notes n false fits = rw (append-nil notes) (none_leads s made notes)

-- and those of all notes
notes_lead : (s : Server) (made : List MadeObject) (notes told : List Note) → AllFit told
    → Lead s made notes (note_bodies told) s made (notes ++ asking told)
notes_lead s made notes [] fits = rw (append-nil notes) (none_leads s made notes)
notes_lead s made notes (n ∷ told) fits =
    let picked = picked_of (asks n.kind) n in
    subst (λ (bodies : List (List ℕ)). Lead s made notes bodies s made (notes ++ asking (n ∷ told)))
    (sym (flat_map-cons (λ (x : Note). body_if (asks x.kind) x) n told))
    (subst (λ (left : List Note). Lead s made notes (body_if (asks n.kind) n ++ note_bodies told) s made left)
    (append_assoc notes picked (asking told)
    ∙ ap (λ (ns : List Note). notes ++ ns) (picked_first (λ (x : Note). asks x.kind) n told))
    (lead_then s made notes (body_if (asks n.kind) n) s made (notes ++ picked) (note_bodies told) s made
    ((notes ++ picked) ++ asking told)
    (note_leads s made notes n (asks n.kind) fits.0) (notes_lead s made (notes ++ picked) told fits.1)))

-- both
pub step_leads : (s t : Server) (made : List MadeObject) (notes : List Note) (r : Record) (told : List Note)
    → length r.entries ≤ MAX_MEMBERS → whole record_in (record_item r) ≡ Ok r → applied_all s r.entries ≡ Some t → AllFit told
    → Lead s made notes (step_bodies r told) t made (notes ++ asking told)
step_leads s t made notes r told few spelled makes fits =
    lead_then s made notes (entry_bodies r) t made notes (note_bodies told) t made (notes ++ asking told)
    (entries_leads s t made notes r few spelled makes) (notes_lead t made notes told fits)

-- ---- nothing to add

first_silent : (n : Note) (told : List Note) (does : Bool) → (asking told ≡ [] → note_bodies told ≡ [])
    → picked_of does n ++ asking told ≡ [] → body_if does n ++ note_bodies told ≡ []
first_silent n told true others silent = absurd (cc silent)
first_silent n told false others silent = others silent

silent_bodies : (told : List Note) → asking told ≡ [] → note_bodies told ≡ []
silent_bodies [] silent = refl
silent_bodies (n ∷ told) silent =
    flat_map-cons (λ (x : Note). body_if (asks x.kind) x) n told
    ∙ first_silent n told (asks n.kind) (silent_bodies told) (picked_first (λ (x : Note). asks x.kind) n told ∙ silent)

no_entries : (r : Record) → length r.entries ≡ 0 → entry_bodies r ≡ []
no_entries r none = rw none refl

-- no entries, and no note that asks for something
pub no_bodies : (r : Record) (told : List Note) → r.entries ≡ [] → asking told ≡ [] → step_bodies r told ≡ []
no_bodies r told none silent =
    ap (λ (bodies : List (List ℕ)). bodies ++ note_bodies told)
    (no_entries r (ap (λ (es : List Entry). length es) none)) ∙ silent_bodies told silent

-- ---- on a disk

-- a log without the bodies or with them
pub with_or_without : (records bodies : List (List ℕ)) (s : Server) (made : List MadeObject) (notes : List Note) (t : Server)
    (objects : List MadeObject) (left : List Note)
    → LeadTo records s → made_by records ≡ made → notes_kept records ≡ notes → Lead s made notes bodies t objects left
    → (c : List ℕ) → IsLog journal_header records c ⊎ IsLog journal_header (records ++ bodies) c
    → IsJournalWith s made notes c ⊎ IsJournalWith t objects left c
with_or_without records bodies s made notes t objects left lead are noted leads c (inl log) =
    inl (record { records = records; log = log; lead = lead; objects = are; noted = noted })
with_or_without records bodies s made notes t objects left lead are noted leads c (inr log) = inr (record {
  records = records ++ bodies;
  log = log;
  lead = lead_on records bodies s t lead leads.server;
  objects = filter_map-append made_in records bodies ∙ ap (λ (ms : List MadeObject). ms ++ made_by bodies) are
      ∙ leads.made_more;
  noted = notes_after-then [] records bodies ∙ ap (λ (ns : List Note). notes_after ns bodies) noted ∙ leads.noted;
})

module _ {D : Type 0} (k : Ghosts D) where
  -- they are added, or aren't
  pub added_or_not : (s : Server) (made : List MadeObject) (notes : List Note) (old : GateLog D) (new : D)
      (bodies : List (List ℕ)) (t : Server) (objects : List MadeObject) (left : List Note)
      → Lead s made notes bodies t objects left
      → ((header : List ℕ) (records : List (List ℕ)) → IsAtRest k.tells k.seen k.may_leave header records old
      → LeavesOnly k.moment k.left_since (disk_of old) new
      (λ c. IsLog header records c ⊎ IsLog header (records ++ bodies) c))
      → KeepsServer k s made notes old
      → LeavesOnly k.moment k.left_since (disk_of old) new
      (λ c. IsJournalWith s made notes c ⊎ IsJournalWith t objects left c)
  added_or_not s made notes old new bodies t objects left leads leaves kept =
      weaker k (disk_of old) new _ (λ c. IsJournalWith s made notes c ⊎ IsJournalWith t objects left c)
      (leaves journal_header kept.records kept.rest)
      (with_or_without kept.records bodies s made notes t objects left kept.lead kept.objects kept.noted leads)

  -- where there are none, no call is made
  pub idle_so : (old new : GateLog D) (entries : Entries) (bodies : List (List ℕ)) → bodies ≡ [] → HaveBodies bodies entries
      → (HaveBodies [] entries → new ≡ old) → disk_of new ≡ disk_of old
  idle_so old new entries bodies none have idle =
      ap (λ (log : GateLog D). disk_of log) (idle (subst (λ (bs : List (List ℕ)). HaveBodies bs entries) none have))

  -- once they were added, the disk has the server to which they lead
  pub added : (s : Server) (made : List MadeObject) (notes : List Note) (old new : GateLog D) (bodies : List (List ℕ))
      (t : Server) (objects : List MadeObject) (left : List Note) → Lead s made notes bodies t objects left
      → ((header : List ℕ) (records : List (List ℕ)) → IsAtRest k.tells k.seen k.may_leave header records old
      → IsAtRest k.tells k.seen k.may_leave header (records ++ bodies) new)
      → KeepsServer k s made notes old → KeepsServer k t objects left new
  added s made notes old new bodies t objects left leads rests kept = record {
    records = kept.records ++ bodies;
    rest = rests journal_header kept.records kept.rest;
    lead = lead_on kept.records bodies s t kept.lead leads.server;
    objects = filter_map-append made_in kept.records bodies
        ∙ ap (λ (ms : List MadeObject). ms ++ made_by bodies) kept.objects ∙ leads.made_more;
    noted = notes_after-then [] kept.records bodies
        ∙ ap (λ (ns : List Note). notes_after ns bodies) kept.noted ∙ leads.noted;
  }
