-- Why the job of a file awaits a command no more.
use Rattle.std.specs.Prelude.{◌≡◌, ◌⊎◌, ℕ, Bool, true, false, not, List, ◌∷◌, ◌++◌, Option, Some, None}
use Rattle.scenario_text.specs.declared.line.Line.{Line}
use Rattle.server_rules.specs.History.{Input, Crashes, Opens}
use Rattle.server_rules.specs.Laws.{In}
use Rattle.server_rules.specs.Messages.{awaited_by}
use Rattle.server_rules.specs.Replies.{Full, hearing}
use Rattle.world_history.specs.ServerNames.{Server, File, Job, Work, Creates, Fences, Stores, Lengths, Awaited}
use Rattle.world_history.specs.Book.{server_after, book_of, awaited_in}
use Rattle.world_history.specs.State.{World}
use Rattle.world_history.specs.History.{StandsFor}
use Rattle.history_law.specs.Read.{AreWritten}
use Rattle.component_law.specs.Going.{taken_out}
use Rattle.cause_law.specs.Steps.{AtInputs}
use Rattle.cause_law.specs.Awaiting.{Answers}

-- the job waits for all that it asked: for CREATEs or SET TAGs, for the WRITEs of a repair's piece, or for lengths
abbrev pub waits_for_all : Work → Bool
waits_for_all Creates = true
waits_for_all Fences = true
waits_for_all (Stores todo short broken) = true
waits_for_all Lengths = true
waits_for_all work = false

-- The job reads a piece of a repair, a rebuild or an audit, or makes or fills the target of a rebuild. Where a component is lost,
-- the piece begins again, or the target is given up.
abbrev pub begins_again : Option Job → Bool
begins_again None = false
begins_again (Some j) = not (waits_for_all j.work)

-- What comes answers the command; or the command's drive is taken out; or another drive is, or there is no space for another
-- WRITE of the job, and a piece begins again or a target is given up; or the server crashes, or is opened.
pub data Ends (s : Server) (i : Input) (f : File) (a : Awaited) : Type 0 where
  Answered : Answers s i f a → Ends s i f a
  Declared : taken_out s i ≡ Some a.drive → Ends s i f a
  Without : (d : ℕ) → taken_out s i ≡ Some d → begins_again f.job ≡ true → Ends s i f a
  Filled : (b : Awaited) → In b (awaited_by f.job) → (x : Answers s i f b) → hearing f.kept b x.reply ≡ Full
      → begins_again f.job ≡ true → Ends s i f a
  Stopped : (i ≡ Crashes) ⊎ (i ≡ Opens) → Ends s i f a

-- So it is of each command that the job of a file awaited, and awaits no more behind these lines of the step.
abbrev pub AwaitedEnd : (before : List Line) → Line → Input → (rest : List Line) → Type 0
AwaitedEnd before l i rest =
    (file : ℕ) (f : File) → book_of before file ≡ Some f → (a : Awaited) → In a (awaited_by f.job)
    → In a (awaited_in (book_of (before ++ l ∷ rest) file)) ⊎ Ends (server_after before) i f a

abbrev pub AwaitedHaveEnds : List Line → Type 0
AwaitedHaveEnds h = AtInputs AwaitedEnd h

-- in each whole history whose events a text may have
abbrev pub EachAwaitedHasItsEnd : Type 0
EachAwaitedHasItsEnd = (w : World) (h : List Line) → StandsFor w h → AreWritten h → AwaitedHaveEnds h
