-- All that is kept of a run stands for what is read off its lines.
use Rattle.std.specs.Prelude.{◌≡◌, ◌++◌, true, List, [], ◌∷◌, None}
use Rattle.scenario_text.specs.declared.event.Event.{Event}
use Rattle.scenario_text.specs.declared.line.Line.TheVariants as line
use Rattle.world_history.specs.State.{World}
use Rattle.world_history.specs.Sending.{Move}
use Rattle.world_history.specs.Plans.{plan_of}
use Rattle.world_history.specs.Refusals.{refusal}
use Rattle.world_history.specs.Runs.{lines_of, AreDue, plan_after, IsOver}
use Rattle.world_history.specs.History.{StandsFor}
use Rattle.scenario_text.specs.declared.line.Line.{Line}
use Rattle.world_history.specs.Calm.{seen}
use Rattle.world_watch.specs.State.{WatchState, no_watch}
use Rattle.world_watch.specs.Watching.{Watches}
use Rattle.calm_law.specs.Following.{Follows}
use Rattle.history_law.specs.Read.{is_written, AreWritten}
use Rattle.calm_law.specs.Moving.{sees_moves}

-- What is kept for the last line and the summary is what the definitions read off a history; its events are such as the
-- text of a scenario has.
pub record WatchesAll (h : List Line) (s : WatchState) : Type 0 where
  pub written : AreWritten h
  pub told : Watches h s
  pub moments : Follows (seen h) s.moments

-- It goes on with an event that a text may have, where the moments went on with its moves, and guesses and summary with
-- its lines.
abbrev pub WatchesEvent : Type 0
WatchesEvent =
    (w : World) (h : List Line) (e : Event) (ms : List Move) (after : World) (old new : WatchState) → StandsFor w h
    → refusal w e ≡ None → AreDue (plan_of w e) w ms → IsOver (plan_after (plan_of w e) ms) after → is_written e ≡ true
    → WatchesAll h old → Watches (h ++ line.Event e ∷ lines_of w ms) new
    → new.moments ≡ sees_moves old.guesses.sightings old.moments w ms
    → WatchesAll (h ++ line.Event e ∷ lines_of w ms) new

-- nothing is kept before the first line
abbrev pub WatchesNothing : Type 0
WatchesNothing = WatchesAll [] no_watch
