-- How calls end, in the words of the lines.
use Rattle.std.specs.Prelude.{◌≡◌, List}
use Rattle.layout_ops.specs.declared.statuses.TheConstants.{NFS4ERR_BADLAYOUT}
use Rattle.scenario_text.specs.declared.line.Ending.TheVariants as ending
use Rattle.scenario_text.specs.declared.line.Outcome.TheVariants as outcome
use Rattle.scenario_text.specs.declared.line.Line.{Line}
use Rattle.scenario_text.specs.declared.line.Line.TheVariants as line
use Rattle.world_history.specs.History.{Lawful}
use Rattle.history_law.specs.Safe.{AtEachLine}
use Rattle.exchange_law.specs.Meeting.{IsReadableThrough}

-- No call ends since its layout can't be used, and none with a status, but that the grant of a commit is over.
abbrev pub EndsAt : List Line → Line → Type 0
EndsAt before (line.Ended client (outcome.Failed call (ending.Status status detail))) =
    (status ≡ NFS4ERR_BADLAYOUT) × (detail ≡ 0)
EndsAt before (line.Ended client (outcome.Failed call (ending.BadLayout why))) = ⊥
EndsAt before l = Unit {0}

-- so it is at each line of a lawful history, where what is said at its moments fits its places
abbrev pub CallsEndFair : Type 0
CallsEndFair = (h : List Line) → Lawful h → IsReadableThrough h → AtEachLine EndsAt h
