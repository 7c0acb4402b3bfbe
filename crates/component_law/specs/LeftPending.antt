-- Calls that are left pending.
use Rattle.std.specs.Prelude.{◌≡◌, ℕ, List, [], ◌∷◌, ◌++◌}
use Rattle.scenario_text.specs.declared.line.Line.TheVariants as line
use Rattle.scenario_text.specs.declared.line.CallKind.{CallKind}
use Rattle.scenario_text.specs.declared.line.Ending.TheVariants as ending
use Rattle.scenario_text.specs.declared.line.Outcome.TheVariants as outcome
use Rattle.scenario_text.specs.declared.line.Line.{Line}
use Rattle.world_history.specs.Calm.{seen}

-- a call is left pending
abbrev pub left_pending : (client : ℕ) → CallKind → Line
left_pending c k = line.Ended c (outcome.Failed k ending.Pending)

-- its line belongs to the step before, and changes nothing that is read
abbrev pub PendingIsRead : Type 0
PendingIsRead = (h : List Line) (c : ℕ) (k : CallKind) → seen (h ++ left_pending c k ∷ []) ≡ seen h
