-- A job that is refused on a file is told.
use Rattle.std.specs.Prelude.{◌≡◌, ℕ, List, ◌∷◌, ◌++◌, Some}
use Rattle.server_rules.specs.declared.limits.TheConstants.{GREATEST_TAG}
use Rattle.server_rules.specs.History.{Input}
use Rattle.server_rules.specs.Laws.{In}
use Rattle.scenario_text.specs.declared.line.Note.TheVariants as note
use Rattle.scenario_text.specs.declared.line.Line.{Line}
use Rattle.scenario_text.specs.declared.line.Line.TheVariants as line
use Rattle.world_history.specs.ServerNames.{Server, File}
use Rattle.world_history.specs.Book.{server_after, book_of}
use Rattle.world_history.specs.State.{World}
use Rattle.world_history.specs.History.{StandsFor}
use Rattle.history_law.specs.Read.{AreWritten}
use Rattle.cause_law.specs.Steps.{AtInputs}
use Rattle.history_claims.specs.Notes.{IsBusy, NeedsOne}

-- One of these lines tells that an order is refused since a job of the file waits, or that a fence is needed and there is no
-- further tag.
pub record AreToldOf (s : Server) (i : Input) (f g : File) (file : ℕ) (rest : List Line) : Type 0 where
  pub busy : (k : ℕ) → IsBusy s i f k → In (line.Note file (note.Busy k)) rest
  pub spent : NeedsOne s i f g → f.kept.tag ≡ GREATEST_TAG → In (line.Note file note.Spent) rest

-- so it is of each file, as the book has it before these lines of the step and behind them
abbrev pub RefusalsGo : (before : List Line) → Line → Input → (rest : List Line) → Type 0
RefusalsGo before l i rest =
    (file : ℕ) (f g : File) → book_of before file ≡ Some f → book_of (before ++ l ∷ rest) file ≡ Some g
    → AreToldOf (server_after before) i f g file rest

abbrev pub RefusalsAreTold : List Line → Type 0
RefusalsAreTold h = AtInputs RefusalsGo h

-- in each whole history whose events a text may have
abbrev pub EachRefusalIsTold : Type 0
EachRefusalIsTold = (w : World) (h : List Line) → StandsFor w h → AreWritten h → RefusalsAreTold h
