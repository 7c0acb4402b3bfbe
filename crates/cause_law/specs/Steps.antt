-- What comes to the server at a line, and the further lines of its step.
use Rattle.std.specs.Prelude.{◌≡◌, List, ◌∷◌, ◌++◌, Some}
use Rattle.server_rules.specs.History.{Input}
use Rattle.scenario_text.specs.declared.line.Line.{Line}
use Rattle.world_history.specs.Book.{input_at, server_seen}
use Rattle.history_law.specs.StepEnds.{BeginNone, BeginNext}

-- some further lines of the step are so
pub record InStep (Holds : (rest : List Line) → Type 0) (after : List Line) : Type 0 where
  pub rest : List Line
  pub more : List Line
  pub cut : after ≡ rest ++ more
  pub of_step : BeginNone rest
  pub ends : BeginNext more
  pub holds : Holds rest

-- so it is of each line at which something comes to the server
abbrev pub AtInputs : ((before : List Line) → Line → Input → (rest : List Line) → Type 0) → List Line → Type 0
AtInputs Holds h =
    (before : List Line) (l : Line) (after : List Line) (i : Input) → h ≡ before ++ l ∷ after
    → input_at (server_seen before) l ≡ Some i → InStep (Holds before l i) after
