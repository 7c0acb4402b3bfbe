-- What is kept for the last line goes on with an event.
use Rattle.std.specs.Prelude.{◌≡◌, ◌++◌, true, List}
use Rattle.scenario_text.specs.declared.event.Event.{Event}
use Rattle.scenario_text.specs.declared.line.Line.{Line}
use Rattle.world_history.specs.State.{World}
use Rattle.world_history.specs.History.{StandsFor, Appended}
use Rattle.world_watch.specs.State.{WatchState}
use Rattle.history_law.specs.Read.{is_written}
use Rattle.calm_law.specs.Watching.{WatchesAll}
use Rattle.layout_world.specs.State.{WorldState, Shows}

-- a move leaves guesses and summary as they were: they see an event's lines when all of them are told
abbrev pub LeavesTold : (old new : WatchState) → Type 0
LeavesTold old new = (new.guesses ≡ old.guesses) × (new.summary ≡ old.summary)

-- where it was what is read off a history that the world stands for, it is so of the history and these further lines, as
-- long as the text of a scenario has such an event
abbrev pub WatchesOn : Event → (before after : List Line) → (old new : WorldState) → Type 0
WatchesOn e before after old new =
    (w : World) (h lines : List Line) → Shows old.parties w → StandsFor w h → Appended before after lines
    → is_written e ≡ true → WatchesAll h old.watch → WatchesAll (h ++ lines) new.watch
