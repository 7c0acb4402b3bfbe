-- How far the grants for writing of a file reached: the book's `high`.
use Rattle.std.specs.Prelude.{◌≡◌, ◌⊎◌, ◌≤◌, ℕ, true, List, ◌∷◌, ◌++◌, Option, Some, None, max}
use Rattle.server_rules.specs.History.{Input}
use Rattle.server_rules.specs.Laws.{In}
use Rattle.scenario_text.specs.declared.line.Line.{Line}
use Rattle.world_history.specs.ServerNames.{File, Grant}
use Rattle.world_history.specs.Book.{book_of}
use Rattle.world_history.specs.State.{World}
use Rattle.world_history.specs.History.{StandsFor}
use Rattle.history_law.specs.Read.{AreWritten}
use Rattle.component_law.specs.Going.{IsMaking}
use Rattle.cause_law.specs.Steps.{AtInputs}

-- It stays, or becomes the end of a grant for writing that is live behind the step, if that is more.
pub data Rises (f g : File) : Type 0 where
  Stays : g.kept.high ≡ f.kept.high → Rises f g
  Raised : (w : Grant) → In w g.kept.grants → w.rw ≡ true → g.kept.high ≡ max f.kept.high w.end → Rises f g

-- How it goes on in a step: so; and it reaches the end of each grant for writing that is live behind the step and wasn't before.
pub record Reaches (f g : File) : Type 0 where
  pub rises : Rises f g
  pub covers : (w : Grant) → In w g.kept.grants → w.rw ≡ true → In w f.kept.grants ⊎ (w.end ≤ g.kept.high)

-- A file that is made begins with none.
pub data ReachGoes (i : Input) (file : ℕ) : (before behind : Option File) → Type 0 where
  Absent : ReachGoes i file None None
  Made : (g : File) → IsMaking i file → g.kept.high ≡ 0 → ReachGoes i file None (Some g)
  GoesOn : (f g : File) → Reaches f g → ReachGoes i file (Some f) (Some g)

-- so it is of each file behind these lines of the step
abbrev pub ReachesGo : (before : List Line) → Line → Input → (rest : List Line) → Type 0
ReachesGo before l i rest = (file : ℕ) → ReachGoes i file (book_of before file) (book_of (before ++ l ∷ rest) file)

abbrev pub ReachesHaveCauses : List Line → Type 0
ReachesHaveCauses h = AtInputs ReachesGo h

-- in each whole history whose events a text may have
abbrev pub EachReachHasItsCause : Type 0
EachReachHasItsCause = (w : World) (h : List Line) → StandsFor w h → AreWritten h → ReachesHaveCauses h
