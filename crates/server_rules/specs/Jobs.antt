-- Jobs: making a file, the fence, what comes when nothing is awaited any more, and when a component is lost meanwhile.
use Rattle.std.specs.Prelude.{ℕ, Bool, true, false, List, [], ◌∷◌, ◌++◌, Option, Some, None, ◌+◌, ◌==◌, ◌||◌, not, max, if◌then◌else◌, filter}
use Rattle.server_rules.specs.State.{Kept, Piece, Heard, Awaited, Target, Job, JobKind, Work, Making, Creates, Fences, Fetches, Stores, Targets, Gathers, Fills, Lengths, Checks, Tally, Phase, Still, Fencing, Repairing, FencingAgain, Ready, Fenced}
use Rattle.server_rules.specs.Standing.{lose_on, any_on}
use Rattle.server_rules.specs.Commands.{Creating, Raising, All, to_all}
use Rattle.server_rules.specs.Going.{Going, over, keeping, with_components, noting, rests_or, waits_on}
use Rattle.server_rules.specs.Audit.{audits, audits_all, checked}
use Rattle.server_rules.specs.Rebuild.{fills, fills_all, filling, made, target_gone}
use Rattle.server_rules.specs.Repair.{repairs, storing, stored, repair_begins}

-- ---- making a file

-- each component was made, or is missing
abbrev pub is_made : Going → Going
is_made g = over (noting (keeping g (record g.file.kept { ready = true })) Ready)

-- the file's present components are made
unfoldable pub making : Going → Going
making g = rests_or (to_all g.file.kept All Creating g.effects.nonce) g Making Creates (is_made g)

-- ---- the fence

-- a fence starts in this phase
abbrev pub fencing : Phase → Phase
fencing Still = Fencing
fencing Fencing = Fencing
fencing Repairing = FencingAgain
fencing FencingAgain = FencingAgain

-- every grant ends, and the file takes the server's format where that is greater
abbrev pub ending : Kept → (format : ℕ) → Kept
ending f format = record f {
  format = max f.format format;
  phase = fencing f.phase;
  grants = [];
  ended = f.ended ++ f.grants;
}

-- each present component has the next tag
unfoldable pub fenced : JobKind → Going → Going
fenced kind g =
    repair_begins kind (noting (keeping g (record g.file.kept { tag = g.file.kept.tag + 1; phase = Repairing }))
    (Fenced (g.file.kept.tag + 1)))

-- the present components are sent the next tag
abbrev pub fences : JobKind → Going → Going
fences kind g = rests_or (to_all g.file.kept All Raising g.effects.nonce) g kind Fences (fenced kind g)

-- a fence starts
unfoldable pub fence_begins : JobKind → (format : ℕ) → Going → Going
fence_begins kind format g = fences kind (keeping g (ending g.file.kept format))

-- ---- nothing is awaited any more

-- the READs of the first piece are answered
abbrev pub fetched : JobKind → Going → List Piece → List ℕ → List Heard → Going
fetched kind g [] short heard = repairs kind g [] short
fetched kind g (p ∷ ps) short heard = storing kind g p ps short heard

-- the WRITEs of the first piece are answered
abbrev pub written : JobKind → Going → List Piece → List ℕ → Bool → Going
written kind g [] short broken = repairs kind g [] short
written kind g (p ∷ ps) short broken = stored kind g p ps short broken

-- the sources of the first piece are read, and what it holds is made of them
abbrev pub gathered : Going → Target → List Piece → List Heard → Going
gathered g t [] heard = fills g t []
gathered g t (p ∷ ps) heard = filling g t p ps (made g.file.kept t p heard)

-- the first piece is written to the target
abbrev pub filled_in : Going → Target → List Piece → Going
filled_in g t [] = fills g t []
filled_in g t (p ∷ ps) = fills g t ps

-- the rows of the first piece are read by an audit
abbrev pub audited_on : Going → List Piece → Tally → List Heard → Going
audited_on g [] t heard = audits g [] t
audited_on g (p ∷ ps) t heard = audits g ps (checked g.file.kept p heard t)

-- the next part of the job
unfoldable pub goes_on : JobKind → Work → List Heard → Going → Going
goes_on kind Creates heard g = is_made g
goes_on kind Fences heard g = fenced kind g
goes_on kind (Fetches todo short) heard g = fetched kind g todo short heard
goes_on kind (Stores todo short broken) heard g = written kind g todo short broken
goes_on kind (Targets t) heard g = fills_all g t
goes_on kind (Gathers t todo) heard g = gathered g t todo heard
goes_on kind (Fills t todo) heard g = filled_in g t todo
goes_on kind Lengths heard g = audits_all g heard
goes_on kind (Checks todo t) heard g = audited_on g todo t heard

-- the job waits for these that are left, or goes on
abbrev pub waits_or_on : Going → Job → Work → List Awaited → List Heard → Going
waits_or_on g j work [] heard = goes_on j.kind work heard g
waits_or_on g j work (c ∷ cs) heard = waits_on g j work c cs heard

-- ---- a component becomes missing in the middle of a job

-- the target stands on that drive
abbrev pub is_target : Work → (drive : ℕ) → Bool
is_target (Targets t) drive = t.drive == drive
is_target (Gathers t todo) drive = t.drive == drive
is_target (Fills t todo) drive = t.drive == drive
is_target work drive = false

-- the rebuild of the component ends, or its piece begins again
abbrev pub refills : Going → Target → List Piece → Bool → Going
refills g t todo true = target_gone g t
refills g t todo false = fills g t todo

-- the rebuild of the component ends, or its CREATE is waited for as before
abbrev pub remakes : Going → Target → Bool → Going
remakes g t true = target_gone g t
remakes g t false = g

-- a component of the file became missing, or the target; `rest` is what is still awaited of the others.
-- A piece begins again at once, but in a repair only when its WRITEs are answered.
unfoldable pub loses : Going → Job → Work → List Awaited → (gone : Bool) → Going
loses g j (Fetches todo short) rest gone = repairs j.kind g todo short
loses g j (Stores todo short broken) rest gone = waits_or_on g j (Stores todo short true) rest j.heard
loses g j (Targets t) rest gone = remakes g t gone
loses g j (Gathers t todo) rest gone = refills g t todo gone
loses g j (Fills t todo) rest gone = refills g t todo gone
loses g j (Checks todo t) rest gone = audits g todo t
loses g j work rest gone = waits_or_on g j work rest j.heard

-- ---- a drive is declared

-- the commands that another drive is to answer
abbrev pub others_than : (drive : ℕ) → List Awaited → List Awaited
others_than drive cs = filter (λ a. not (a.drive == drive)) cs

-- the job goes on without what stood on the drive
abbrev pub declared_in : Going → (drive : ℕ) → Option Job → Going
declared_in g drive None = g
declared_in g drive (Some j) = loses g j j.work (others_than drive j.awaited) (is_target j.work drive)

-- a job makes its target there
abbrev pub targets : Option Job → (drive : ℕ) → Bool
targets None drive = false
targets (Some j) drive = is_target j.work drive

-- each component of the file that stands there becomes missing
unfoldable pub declares : Going → (drive : ℕ) → Going
declares g drive =
    if any_on drive g.file.kept.components || targets g.file.job drive
    then declared_in (with_components g (lose_on drive g.file.kept.components)) drive g.file.job
    else g
