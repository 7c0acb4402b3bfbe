-- A job goes through stages, and each stage that ends is told by its note.
use Rattle.std.specs.Prelude.{◌≡◌, ◌⊎◌, ℕ, List, ◌∷◌, ◌++◌, Option, Some, None}
use Rattle.server_rules.specs.History.{Input, Crashes, Opens}
use Rattle.server_rules.specs.Laws.{In}
use Rattle.scenario_text.specs.declared.line.Note.{Note}
use Rattle.scenario_text.specs.declared.line.Note.TheVariants as note
use Rattle.scenario_text.specs.declared.line.Line.{Line}
use Rattle.scenario_text.specs.declared.line.Line.TheVariants as line
use Rattle.world_history.specs.ServerNames.{File, Job, Work, Creates, Fences, Fetches, Stores, Targets, Gathers, Fills, Lengths, Checks}
use Rattle.world_history.specs.Book.{book_of}
use Rattle.world_history.specs.State.{World}
use Rattle.world_history.specs.History.{StandsFor}
use Rattle.history_law.specs.Read.{AreWritten}
use Rattle.cause_law.specs.Steps.{AtInputs}

-- what a job is at: its CREATEs, its fence, its repair, one component that it makes anew, or its audit
pub data Stage : Type 0 where
  AtCreates : Stage
  AtFence : Stage
  AtRepair : Stage
  AtComponent : (k : ℕ) → Stage
  AtAudit : Stage

abbrev pub stage_of : Work → Stage
stage_of Creates = AtCreates
stage_of Fences = AtFence
stage_of (Fetches todo short) = AtRepair
stage_of (Stores todo short broken) = AtRepair
stage_of (Targets t) = AtComponent t.component
stage_of (Gathers t todo) = AtComponent t.component
stage_of (Fills t todo) = AtComponent t.component
stage_of Lengths = AtAudit
stage_of (Checks todo found) = AtAudit

-- the note tells that such a stage is over
abbrev pub Ends : Stage → Note → Type 0
Ends AtCreates note.Ready = Unit {0}
Ends AtFence (note.Fenced tag) = Unit {0}
Ends AtRepair (note.Repaired stripes short) = Unit {0}
Ends (AtComponent k) (note.Rebuilt c d) = c ≡ k
Ends (AtComponent k) (note.NoDrive c) = c ≡ k
Ends (AtComponent k) (note.Lost c positions) = c ≡ k
Ends (AtComponent k) (note.NoSpace c) = c ≡ k
Ends AtAudit (note.Audited stripes short bad bytes) = Unit {0}
Ends s n = ⊥

-- a job is at that
abbrev pub IsAt : Stage → Option Job → Type 0
IsAt s None = ⊥
IsAt s (Some j) = stage_of j.work ≡ s

-- Where the job of a file is at something before a step with these lines, it is at the same behind it; or one of the lines tells
-- that this is over; or the server crashes, or is opened.
pub data StageGoes (i : Input) (lines : List Line) (file : ℕ) (s : Stage) (behind : Option File) : Type 0 where
  Stays : (g : File) → behind ≡ Some g → IsAt s g.job → StageGoes i lines file s behind
  Tells : (n : Note) → Ends s n → In (line.Note file n) lines → StageGoes i lines file s behind
  Stops : (i ≡ Crashes) ⊎ (i ≡ Opens) → StageGoes i lines file s behind

-- so it is of each file
abbrev pub StagesGo : (before : List Line) → Line → Input → (rest : List Line) → Type 0
StagesGo before l i rest =
    (file : ℕ) (f : File) (s : Stage) → book_of before file ≡ Some f → IsAt s f.job
    → StageGoes i rest file s (book_of (before ++ l ∷ rest) file)

abbrev pub StagesHaveEnds : List Line → Type 0
StagesHaveEnds h = AtInputs StagesGo h

-- in each whole history whose events a text may have
abbrev pub EachStageHasItsEnd : Type 0
EachStageHasItsEnd = (w : World) (h : List Line) → StandsFor w h → AreWritten h → StagesHaveEnds h
