-- Which notes ask for something, and which of them are kept.
use Rattle.std.specs.Prelude.{ℕ, Bool, true, false, List, [], ◌∷◌, ◌++◌, ◌==◌, not, filter, nat_lt}
use Rattle.server_rules.specs.declared.notes.Note.{Note}
use Rattle.server_rules.specs.declared.notes.NoteKind.{NoteKind}
use Rattle.server_rules.specs.declared.notes.NoteKind.TheVariants.{Repaired, NoDrive, Lost, Audit}
use Rattle.server_notes.specs.declared.remark.Remark.{Remark}
use Rattle.server_notes.specs.declared.remark.Remark.TheVariants.{Asks, Dealt}

-- a repair left stripes short, a component has no drive or can't be decoded, or an audit found bad stripes
abbrev pub asks : NoteKind → Bool
asks (Repaired stripes short) = nat_lt 0 short
asks (NoDrive component) = true
asks (Lost component positions) = true
asks (Audit stripes short bad bytes) = nat_lt 0 bad
asks other = false

-- those of these notes that do, in order
abbrev pub asking : List Note → List Note
asking notes = filter (λ (n : Note). asks n.kind) notes

-- and those that ask for nothing
abbrev pub quiet : List Note → List Note
quiet notes = filter (λ (n : Note). not (asks n.kind)) notes

-- the notes of other files
abbrev pub without : List Note → (file : ℕ) → List Note
without notes file = filter (λ (n : Note). not (n.file == file)) notes

-- a note, if it is picked
abbrev pub picked_of : Bool → Note → List Note
picked_of true n = n ∷ []
picked_of false n = []

-- the notes that are kept after a remark: one more, or those of a file less
abbrev pub after_remark : List Note → Remark → List Note
after_remark notes (Asks n) = notes ++ n ∷ []
after_remark notes (Dealt file) = without notes file
