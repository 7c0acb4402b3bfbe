-- When a component of a file becomes missing: by its note, or by the order to declare its drive.
use Rattle.std.specs.Prelude.{◌≡◌, ◌⊎◌, ℕ, true, false, List, ◌∷◌, ◌++◌, slice_get, Some}
use Rattle.server_rules.specs.History.{Input}
use Rattle.server_rules.specs.Laws.{In}
use Rattle.scenario_text.specs.declared.line.Note.{Note}
use Rattle.scenario_text.specs.declared.line.Note.TheVariants as note
use Rattle.scenario_text.specs.declared.line.Line.{Line}
use Rattle.scenario_text.specs.declared.line.Line.TheVariants as line
use Rattle.world_history.specs.ServerNames.{Server, File, Component}
use Rattle.world_history.specs.Book.{server_after, book_of}
use Rattle.world_history.specs.State.{World}
use Rattle.world_history.specs.History.{StandsFor}
use Rattle.history_law.specs.Read.{AreWritten}
use Rattle.component_law.specs.Components.{is_lacking}
use Rattle.component_law.specs.Going.{taken_out}
use Rattle.cause_law.specs.Steps.{AtInputs}

-- the note tells that component k is missing
abbrev pub IsLoss : (k : ℕ) → Note → Type 0
IsLoss k n = (n ≡ note.NoSpace k) ⊎ (n ≡ note.Reported k)

-- one of these lines tells so of the file, or its drive is taken out by what comes
pub data IsLost (s : Server) (i : Input) (lines : List Line) (file k : ℕ) (f : File) : Type 0 where
  ByNote : (n : Note) → IsLoss k n → In (line.Note file n) lines → IsLost s i lines file k f
  ByDrive : (at : Component) → slice_get f.kept.components k ≡ Some at → taken_out s i ≡ Some at.drive
      → IsLost s i lines file k f

-- so it is of each component that is there and isn't behind these lines of the step
abbrev pub LossesGo : (before : List Line) → Line → Input → (rest : List Line) → Type 0
LossesGo before l i rest =
    (file k : ℕ) (f g : File) → book_of before file ≡ Some f → book_of (before ++ l ∷ rest) file ≡ Some g
    → is_lacking f.kept.components k ≡ false → is_lacking g.kept.components k ≡ true
    → IsLost (server_after before) i rest file k f

abbrev pub LossesHaveCauses : List Line → Type 0
LossesHaveCauses h = AtInputs LossesGo h

-- in each whole history whose events a text may have
abbrev pub EachLossHasItsCause : Type 0
EachLossHasItsCause = (w : World) (h : List Line) → StandsFor w h → AreWritten h → LossesHaveCauses h
