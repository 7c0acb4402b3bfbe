-- No call ends since an object has no lane for its client, or since a command of it was stale.
use Rattle.std.specs.Prelude.{◌≡◌, true, false, List, ◌++◌}
use Rattle.scenario_text.specs.declared.line.Ending.TheVariants.{Refused}
use Rattle.scenario_text.specs.declared.line.Outcome.TheVariants.{Failed}
use Rattle.scenario_text.specs.declared.line.Line.{Line}
use Rattle.scenario_text.specs.declared.line.Line.TheVariants as line
use Rattle.world_history.specs.State.{World}
use Rattle.world_history.specs.Guesses.{unguessed}
use Rattle.world_history.specs.History.{Lawful}
use Rattle.history_law.specs.Safe.{AtEachLine}
use Rattle.history_law.specs.BookMoments.{IsMoment}
use Rattle.exchange_law.specs.Awaited.{AreFewerThanNonces}
use Rattle.exchange_law.specs.Sent.{CommandsFit}
use Rattle.exchange_law.specs.Given.{GrantsAreNew}
use Rattle.exchange_law.specs.LaneTaken.{is_of_lanes}

-- where few messages were sent so far, a line doesn't tell that a call ended so
abbrev pub HasRoom : List Line → Line → Type 0
HasRoom before (line.Ended c (Failed kind (Refused d v))) = AreFewerThanNonces before → is_of_lanes v ≡ false
HasRoom before l = Unit {0}

-- at each moment up to the end of these lines the objects and nonces of clients' commands fit their places
abbrev pub PlacesSuffice : List Line → Type 0
PlacesSuffice h =
    (w : World) (before after : List Line) → h ≡ before ++ after → IsMoment w before → CommandsFit w

-- so it is at each line of a lawful history in which nothing was guessed, where each grant that clients took was new to
-- its objects
abbrev pub NoLaneIsWanting : Type 0
NoLaneIsWanting =
    (h : List Line) → Lawful h → unguessed h ≡ true → GrantsAreNew h → PlacesSuffice h → AtEachLine HasRoom h
