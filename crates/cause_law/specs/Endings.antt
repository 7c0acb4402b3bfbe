-- How no call of a client ends.
use Rattle.std.specs.Prelude.{List}
use Rattle.scenario_text.specs.declared.line.Ending.TheVariants.{Refused}
use Rattle.scenario_text.specs.declared.line.Outcome.TheVariants.{Failed}
use Rattle.scenario_text.specs.declared.line.Line.{Line}
use Rattle.scenario_text.specs.declared.line.Line.TheVariants as line
use Rattle.world_history.specs.Reading.{sent_in}
use Rattle.world_history.specs.History.{Lawful}
use Rattle.history_law.specs.Safe.{AtEachLine}
use Rattle.exchange_law.specs.PlaceAnswers.{AnswersFit}
use Rattle.exchange_law.specs.Histories.{IsMisplaced}

-- not with a drive's verdict on where a command lies
abbrev pub EndsRightlyAt : List Line → Line → Type 0
EndsRightlyAt before (line.Ended c (Failed kind (Refused d v))) = IsMisplaced v → ⊥
EndsRightlyAt before l = Unit {0}

-- so it is at each line of a lawful history, where what the server sent so far fits its places
abbrev pub EndsRightlyWhereItFits : List Line → Line → Type 0
EndsRightlyWhereItFits before l = AnswersFit (sent_in before) → EndsRightlyAt before l

abbrev pub NoCallEndsMisplaced : Type 0
NoCallEndsMisplaced = (h : List Line) → Lawful h → AtEachLine EndsRightlyWhereItFits h
