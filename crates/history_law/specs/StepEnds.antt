-- What holds at the end of the step in which a line is told.
use Rattle.std.specs.Prelude.{◌≡◌, true, false, List, [], ◌∷◌, ◌++◌}
use Rattle.server_rules.specs.Laws.{In}
use Rattle.scenario_text.specs.declared.line.Ending.TheVariants as ending
use Rattle.scenario_text.specs.declared.line.Outcome.TheVariants.{Failed}
use Rattle.scenario_text.specs.declared.line.Line.{Line}
use Rattle.scenario_text.specs.declared.line.Line.TheVariants as line
use Rattle.world_history.specs.Reading.{is_head}

-- no line of these begins a step
abbrev pub BeginNone : List Line → Type 0
BeginNone ls = (l : Line) → In l ls → is_head l ≡ false

-- none is left, or a step begins with these, or they tell that a call is left pending
abbrev pub BeginNext : List Line → Type 0
BeginNext [] = Unit {0}
BeginNext (line.Ended c (Failed kind ending.Pending) ∷ ls) = Unit {0}
BeginNext (l ∷ ls) = is_head l ≡ true

-- Behind the further lines of the line's step, which are told before anything else happens, this holds of the lines before
-- it and of all lines up to there.
pub record BehindStep (Holds : (before upto : List Line) → Type 0) (before : List Line) (l : Line) (after : List Line)
    : Type 0 where
  pub rest : List Line
  pub more : List Line
  pub cut : after ≡ rest ++ more
  pub of_step : BeginNone rest
  pub ends : BeginNext more
  pub holds : Holds before (before ++ l ∷ rest)

-- so it is of each line of a kind, in these lines
abbrev pub AtStepEnds : (Line → Type 0) → (Line → (before upto : List Line) → Type 0) → List Line → Type 0
AtStepEnds Says Holds h =
    (before : List Line) (l : Line) (after : List Line) → h ≡ before ++ l ∷ after → Says l →
    BehindStep (Holds l) before l after
