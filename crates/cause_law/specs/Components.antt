-- How the components of each file go on: as the lines of the server's step tell.
use Rattle.std.specs.Prelude.{ℕ, List, ◌∷◌, ◌++◌}
use Rattle.server_rules.specs.History.{Input}
use Rattle.scenario_text.specs.declared.line.Line.{Line}
use Rattle.world_history.specs.Book.{server_after, book_of}
use Rattle.world_history.specs.State.{World}
use Rattle.world_history.specs.History.{StandsFor}
use Rattle.component_law.specs.Going.{taken_out, Goes}
use Rattle.history_law.specs.Read.{AreWritten}
use Rattle.cause_law.specs.Steps.{AtInputs}

-- Behind these lines of the step each file has its map, and its components are as the notes among them tell: one with `nospace`
-- or `reported` is missing, and one with `rebuilt` is present on another drive. If what comes is the order to declare a drive
-- that the server knows, the components on it are missing before that. Any other is as it was. A file that wasn't there is made,
-- and none goes.
abbrev pub ComponentsGo : (before : List Line) → Line → Input → (rest : List Line) → Type 0
ComponentsGo before l i rest =
    (file : ℕ)
    → Goes i (taken_out (server_after before) i) rest file (book_of before file) (book_of (before ++ l ∷ rest) file)

abbrev pub ComponentsHaveCauses : List Line → Type 0
ComponentsHaveCauses h = AtInputs ComponentsGo h

-- in each whole history whose events a text may have
abbrev pub EachComponentHasItsCauses : Type 0
EachComponentHasItsCauses = (w : World) (h : List Line) → StandsFor w h → AreWritten h → ComponentsHaveCauses h
