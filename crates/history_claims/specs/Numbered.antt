-- Messages are numbered as they are sent.
use Rattle.std.specs.Prelude.{◌≡◌, List, length}
use Rattle.scenario_text.specs.declared.line.Line.{Line}
use Rattle.scenario_text.specs.declared.line.Line.TheVariants as line
use Rattle.world_history.specs.History.{Lawful}
use Rattle.world_history.specs.Reading.{sent_in}
use Rattle.history_law.specs.Safe.{AtEachLine}

-- the line of a message has the number of messages before it
abbrev pub NumberedAt : List Line → Line → Type 0
NumberedAt before (line.Message number from to bytes) = number ≡ length (sent_in before)
NumberedAt before l = Unit {0}

-- in each lawful history
abbrev pub MessagesAreNumbered : Type 0
MessagesAreNumbered = (h : List Line) → Lawful h → AtEachLine NumberedAt h
