-- The records of a journal, one after the other.
use Rattle.std.proofs.Common.{◌≡◌, ◌<◌, ◌≤◌, ◌^◌, ℕ, List, [], ◌∷◌, ◌++◌, length, Option, Some, None, Result, Ok, inl, inr, refl, ◌∙◌, ap, arith}
use Rattle.std.specs.Prelude.{◌==◌, slice_range}
use Rattle.std.specs.Int.{w32, from_be_bytes}
use Rattle.std.proofs.lemmas.Bool.{cases_Bool, ne_eqb}
use Rattle.std.proofs.lemmas.Nat.{from_be_bytes-to_be_bytes_4, from_be_bytes-to_be_bytes_8}
use Rattle.gate_log.specs.declared.entry.TheConstants.{MAX_BODY}
use Rattle.layout_types.specs.declared.parts.TheConstants.{MAX_MEMBERS}
use Rattle.layout_types.specs.declared.err.LayoutErr.{LayoutErr}
use Rattle.layout_types.specs.Grammar.{list_item, whole}
use Rattle.xdr_codec.specs.Items.{u32_item}
use Rattle.server_rules.specs.declared.server.Server.{Server}
use Rattle.server_rules.specs.Making.{new_server}
use Rattle.server_entries.specs.Applying.{applied_all}
use Rattle.server_entries.specs.declared.record.Record.{Record}
use Rattle.server_entries.specs.Reading.{record_in}
use Rattle.server_entries.specs.Spelling.{record_item}
use Rattle.server_journal.specs.Made.{made_by, made_in, made_item}
use Rattle.server_journal.specs.declared.made.TheConstants.{MADE, MADE_SIZE}
use Rattle.server_journal.specs.declared.made.MadeObject.{MadeObject}
use Rattle.server_journal.specs.Records.{LeadTo, after_reading, after_record, after_record_of, replayed, unless_made, unless_remarked}
use Rattle.server_notes.proofs.RemarkLaws as notes
use Rattle.server_notes.specs.Reading.{remark_in}
use Rattle.server_notes.specs.Spelling.{remark_item}
use Rattle.server_notes.specs.declared.remark.Remark.{Remark}
use Rattle.server_notes.specs.declared.remark.Remark.TheVariants.{Asks, Dealt}
use Rattle.server_notes.specs.declared.remark.TheConstants.{NOTED}

-- a record has bytes, even if it has no entries
pub some_bytes : (r : Record) → 0 < length (record_item r)
unfolding list_item u32_item
some_bytes r = omega arith

pub replayed-more : (s : Option Server) (records : List (List ℕ)) (bytes : List ℕ) →
    replayed s (records ++ bytes ∷ []) ≡ after_record_of (replayed s records) bytes
replayed-more s [] bytes = refl
replayed-more s (r ∷ records) bytes = replayed-more (after_record_of s r) records bytes

pub replayed-then : (s : Option Server) (records more : List (List ℕ)) →
    replayed s (records ++ more) ≡ replayed (replayed s records) more
replayed-then s [] more = refl
replayed-then s (r ∷ records) more = replayed-then (after_record_of s r) records more

pub replayed-none : (records : List (List ℕ)) → replayed None records ≡ None
replayed-none [] = refl
replayed-none (r ∷ records) = replayed-none records

-- one record more
pub lead_more : (records : List (List ℕ)) (s t : Server) (bytes : List ℕ) → LeadTo records s → after_record s bytes ≡ Some t →
    LeadTo (records ++ bytes ∷ []) t
lead_more records s t bytes lead one =
    replayed-more (Some (new_server [])) records bytes ∙ ap (λ (o : Option Server). after_record_of o bytes) lead ∙ one

-- several more
pub lead_on : (records bodies : List (List ℕ)) (s t : Server) → LeadTo records s → replayed (Some s) bodies ≡ Some t
    → LeadTo (records ++ bodies) t
lead_on records bodies s t lead more =
    replayed-then (Some (new_server [])) records bodies ∙ ap (λ (o : Option Server). replayed o bodies) lead ∙ more

-- the bytes of a record lead where its entries do
pub entries_lead : (s t : Server) (r : Record) (bytes : List ℕ) → made_in bytes ≡ None → remark_in bytes ≡ None
    → whole record_in bytes ≡ Ok r → applied_all s r.entries ≡ Some t → after_record s bytes ≡ Some t
entries_lead s t r bytes plain silent spelled made =
    ap (λ (o : Option MadeObject). unless_made s o (remark_in bytes) (whole record_in bytes)) plain
    ∙ ap (λ (n : Option Remark). unless_remarked s n (whole record_in bytes)) silent
    ∙ ap (λ (x : Result Record LayoutErr). after_reading s x) spelled ∙ made

-- what tells of an object leads nowhere
pub object_leads : (s : Server) (bytes : List ℕ) (m : MadeObject) → made_in bytes ≡ Some m → after_record s bytes ≡ Some s
object_leads s bytes m one =
    ap (λ (o : Option MadeObject). unless_made s o (remark_in bytes) (whole record_in bytes)) one

-- and so does a remark
pub remark_leads : (s : Server) (bytes : List ℕ) (n : Remark) → made_in bytes ≡ None → remark_in bytes ≡ Some n
    → after_record s bytes ≡ Some s
remark_leads s bytes n plain one =
    ap (λ (o : Option MadeObject). unless_made s o (remark_in bytes) (whole record_in bytes)) plain
    ∙ ap (λ (x : Option Remark). unless_remarked s x (whole record_in bytes)) one

-- ---- objects

abbrev of_body : Option MadeObject → List MadeObject
of_body None = []
of_body (Some m) = m ∷ []

by_body : (bytes : List ℕ) → made_by (bytes ∷ []) ≡ of_body (made_in bytes)
by_body bytes = go (made_in bytes) refl
  where
    go : (o : Option MadeObject) → made_in bytes ≡ o → made_by (bytes ∷ []) ≡ of_body (made_in bytes)
    go None is = rw is refl
    go (Some m) is = rw is refl

-- a record that tells of an object
pub one_object : (bytes : List ℕ) (m : MadeObject) → made_in bytes ≡ Some m → made_by (bytes ∷ []) ≡ m ∷ []
one_object bytes m one = by_body bytes ∙ ap of_body one

-- and one that doesn't
pub no_object : (bytes : List ℕ) → made_in bytes ≡ None → made_by (bytes ∷ []) ≡ []
no_object bytes none = by_body bytes ∙ ap of_body none

-- the body of an object's record tells of it
pub object_in : (m : MadeObject) → m.drive < 2 ^ 32 → m.object < 2 ^ 64 → made_in (made_item m) ≡ Some m
unfolding made_in made_item
object_in m drive object =
    rw (from_be_bytes-to_be_bytes_4 m.drive drive, from_be_bytes-to_be_bytes_8 m.object object) refl

-- a body that begins with another number tells of none
pub other_first : (n : ℕ) (rest : List ℕ) → n < 2 ^ 32 → (n ≡ MADE → ⊥) → made_in (u32_item n ++ rest) ≡ None
unfolding made_in u32_item
other_first n rest low other =
    let number : from_be_bytes w32 (slice_range (u32_item n ++ rest) 0 4) ≡ n = from_be_bytes-to_be_bytes_4 n low in
    elim (cases_Bool (length (u32_item n ++ rest) == MADE_SIZE)) [
      | inl sized ↦ rw (sized, number, ne_eqb n MADE other) refl
      | inr unsized ↦ rw unsized refl
    ]

-- a remark has bytes
pub remark_some : (r : Remark) → 0 < length (remark_item r)
unfolding u32_item
remark_some (Asks n) = omega arith
remark_some (Dealt file) = omega arith

-- and that a file is dealt with, few
pub dealt_short : (file : ℕ) → length (remark_item (Dealt file)) ≤ MAX_BODY
unfolding u32_item
dealt_short file = omega arith

-- so a list of entries tells of none
pub entries_only : (r : Record) → length r.entries ≤ MAX_MEMBERS → made_in (record_item r) ≡ None
unfolding list_item
entries_only r few = other_first (length r.entries) _ (omega (arith, few)) (λ e. omega (arith, few, e))

-- and of no note
pub entries_silent : (r : Record) → length r.entries ≤ MAX_MEMBERS → remark_in (record_item r) ≡ None
unfolding list_item
entries_silent r few = notes.other_first (length r.entries) _ (omega (arith, few)) (λ e. omega (arith, few, e))

-- nor does a remark
pub remark_only : (n : Remark) → made_in (remark_item n) ≡ None
remark_only (Asks n) = other_first NOTED _ (omega arith) (λ e. absurd (omega (arith, e)))
remark_only (Dealt file) = other_first NOTED _ (omega arith) (λ e. absurd (omega (arith, e)))

-- no entries lead nowhere
pub none_lead : (s t : Server) (r : Record) → length r.entries ≡ 0 → applied_all s r.entries ≡ Some t → s ≡ t
none_lead s t r none made = by r.entries none made
  where
    by : (es : List _) → length es ≡ 0 → applied_all s es ≡ Some t → s ≡ t
    by [] n m = cc m
    by (e ∷ es) n m = absurd (omega (arith, n))
