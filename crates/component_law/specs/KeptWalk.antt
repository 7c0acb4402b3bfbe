-- How what is kept of a file goes on in a step of the server, note by note.
use Rattle.std.specs.Prelude.{◌≡◌, ℕ, ◌+◌, Bool, true, false, List, [], ◌∷◌, ◌++◌, Option, Some, None}
use Rattle.component_law.specs.Tagged.{is_fence}
use Rattle.world_history.specs.ServerNames.{File, Kept, Phase, Still, Repairing, Note, NoteKind, Fenced, Repaired, Job, Work, Fences, Fetches, Stores}

-- ---- work and phase

-- A fence runs while it is open, and a repair behind it; all other work is done while the file is still.
abbrev pub WorkFits : Phase → Work → Type 0
WorkFits p Fences = is_fence p ≡ true
WorkFits p (Fetches todo short) = p ≡ Repairing
WorkFits p (Stores todo short broken) = p ≡ Repairing
WorkFits p work = p ≡ Still

-- Without a job the file is still, but if a fence was refused since its tag is spent.
abbrev pub JobFits : (spent : Bool) → Phase → Option Job → Type 0
JobFits spent p None = spent ≡ false → p ≡ Still
JobFits spent p (Some j) = WorkFits p j.work

-- so it is of a file whose server is up
abbrev pub FileFits : File → Type 0
FileFits f = JobFits f.spent f.kept.phase f.job

-- ---- a step

-- a note that tells of no fence and of no repair
abbrev pub is_plain : NoteKind → Bool
is_plain (Fenced tag) = false
is_plain (Repaired stripes short) = false
is_plain kind = true

-- the same but for components, format, and whether the file is made
pub record AreAlike (k l : Kept) : Type 0 where
  pub number : l.number ≡ k.number
  pub map : l.map ≡ k.map
  pub first_tag : l.first_tag ≡ k.first_tag
  pub tag : l.tag ≡ k.tag
  pub size : l.size ≡ k.size
  pub high : l.high ≡ k.high
  pub phase : l.phase ≡ k.phase
  pub grants : l.grants ≡ k.grants
  pub ended : l.ended ≡ k.ended
  -- a file that was made stays made
  pub ready : l.ready ≡ false → k.ready ≡ false

-- the notes, and a further one of the file
abbrev pub noted_of : Kept → List Note → NoteKind → List Note
noted_of k ns kind = ns ++ (record { file = k.number; kind = kind } ∷ [])

-- Q of what is kept and of the notes so far lasts through each part of a job.
pub record IsWalked (Q : Kept → List Note → Type 0) : Type 0 where
  pub alike : (k l : Kept) (ns : List Note) → AreAlike k l → Q k ns → Q l ns
  pub plain : (k : Kept) (ns : List Note) (kind : NoteKind) → is_plain kind ≡ true → Q k ns → Q k (noted_of k ns kind)
  pub fenced : (k : Kept) (ns : List Note) → is_fence k.phase ≡ true → Q k ns →
      Q (record k { tag = k.tag + 1; phase = Repairing }) (noted_of k ns (Fenced (k.tag + 1)))
  pub mended : (k : Kept) (ns : List Note) (stripes short : ℕ) → k.phase ≡ Repairing → Q k ns →
      Q (record k { ended = []; phase = Still }) (noted_of k ns (Repaired stripes short))
