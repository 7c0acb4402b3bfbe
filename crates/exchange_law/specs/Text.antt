-- Histories of a scenario's text, and those with no more messages than bytes are kept.
use Rattle.std.specs.Prelude.{◌≤◌, List, [], ◌∷◌, length}
use Rattle.scenario_text.specs.Spelling.{Fits}
use Rattle.scenario_text.specs.declared.line.Line.{Line}
use Rattle.scenario_text.specs.declared.line.Line.TheVariants as line
use Rattle.world_history.specs.declared.limits.TheConstants.{MAX_KEPT}
use Rattle.world_history.specs.State.{World}
use Rattle.world_history.specs.Reading.{sent_in}
use Rattle.world_history.specs.History.{StandsFor}
use Rattle.history_law.specs.HistoryMoments.{IsReached}

-- the line of an event that the text of a scenario may have, or any other line
abbrev pub IsOfText : Line → Type 0
IsOfText (line.Event e) = Fits e
IsOfText l = Unit {0}

-- so are all lines
abbrev pub AreOfText : List Line → Type 0
AreOfText [] = Unit {0}
AreOfText (l ∷ ls) = IsOfText l × AreOfText ls

-- no more messages were sent than bytes are kept
abbrev pub AreFew : List Line → Type 0
AreFew h = length (sent_in h) ≤ MAX_KEPT

-- each message has a byte that is kept, at each moment
abbrev pub EachMessageIsKept : Type 0
EachMessageIsKept = (w : World) → IsReached w → length w.network.messages ≤ w.network.kept

-- so a history within the limit of kept bytes has few messages
abbrev pub WithinTheLimitAreFew : Type 0
WithinTheLimitAreFew = (w : World) (h : List Line) → StandsFor w h → w.network.kept ≤ MAX_KEPT → AreFew h
