-- What holds of each history of a scenario's text in which few messages were sent.
use Rattle.std.specs.Prelude.{List}
use Rattle.scenario_text.specs.declared.line.Line.{Line}
use Rattle.world_history.specs.History.{Lawful}
use Rattle.history_law.specs.Safe.{AtEachLine}
use Rattle.exchange_law.specs.Text.{AreOfText, AreFew}
use Rattle.exchange_law.specs.Histories.{PlacedAt}
use Rattle.cause_law.specs.Endings.{EndsRightlyAt}

-- each command of a client is placed, and no drive gives a verdict on where it lies
abbrev pub CommandsOfTextArePlaced : Type 0
CommandsOfTextArePlaced = (h : List Line) → Lawful h → AreOfText h → AreFew h → AtEachLine PlacedAt h

-- so no call ends with such a verdict
abbrev pub NoCallOfTextEndsMisplaced : Type 0
NoCallOfTextEndsMisplaced = (h : List Line) → Lawful h → AreOfText h → AreFew h → AtEachLine EndsRightlyAt h
