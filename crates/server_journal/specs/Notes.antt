-- The notes that a journal keeps: those that its records tell, without those with which an operator has dealt.
use Rattle.std.specs.Prelude.{ℕ, List, [], ◌∷◌, ◌++◌, ◌==◌, Bool, true, false, Option, Some, None, ⊤, length, if◌then◌else◌}
use Rattle.std.specs.List.{AllByRecursion, flat_map}
use Rattle.server_rules.specs.declared.notes.Note.{Note}
use Rattle.server_entries.specs.declared.record.Record.{Record}
use Rattle.server_entries.specs.Spelling.{record_item}
use Rattle.server_notes.specs.Asking.{after_remark, asks}
use Rattle.server_notes.specs.Reading.{remark_in}
use Rattle.server_notes.specs.Spelling.{RemarkFits, remark_item}
use Rattle.server_notes.specs.declared.remark.Remark.{Remark}
use Rattle.server_notes.specs.declared.remark.Remark.TheVariants.{Asks}
use Rattle.server_journal.specs.declared.made.MadeObject.{MadeObject}
use Rattle.server_journal.specs.Made.{made_in}

-- ---- what records tell

-- the remark of a body that tells of no made object
abbrev pub unless_object : Option MadeObject → Option Remark → Option Remark
unless_object (Some m) r = None
unless_object None r = r

-- the notes that are kept after a remark, if there is one
abbrev pub and_remark : List Note → Option Remark → List Note
and_remark notes None = notes
and_remark notes (Some r) = after_remark notes r

-- and after a record
abbrev pub after_body : List Note → List ℕ → List Note
after_body notes bytes = and_remark notes (unless_object (made_in bytes) (remark_in bytes))

-- and after these records, the first of them first
abbrev pub notes_after : List Note → List (List ℕ) → List Note
notes_after notes [] = notes
notes_after notes (bytes ∷ records) = notes_after (after_body notes bytes) records

-- the notes that a journal with these records keeps
abbrev pub notes_kept : List (List ℕ) → List Note
notes_kept records = notes_after [] records

-- ---- the records of a step

-- one of its entries, if it has any
abbrev pub entry_bodies : Record → List (List ℕ)
entry_bodies r = if length r.entries == 0 then [] else record_item r ∷ []

-- one of a note that asks for something
abbrev pub body_if : Bool → Note → List (List ℕ)
body_if true n = remark_item (Asks n) ∷ []
body_if false n = []

-- one of each of these notes that does
abbrev pub note_bodies : List Note → List (List ℕ)
note_bodies notes = flat_map (λ (n : Note). body_if (asks n.kind) n) notes

-- of its entries, and of its notes
abbrev pub step_bodies : Record → List Note → List (List ℕ)
step_bodies r notes = entry_bodies r ++ note_bodies notes

-- the fields of a note that asks for something fit
abbrev pub FitsIf : Bool → Note → Type 0
FitsIf true n = RemarkFits (Asks n)
FitsIf false n = ⊤

abbrev pub AllFit : List Note → Type 0
AllFit notes = AllByRecursion (λ (n : Note). FitsIf (asks n.kind) n) notes
