-- Where the lines of one event begin and end in a history.
use Rattle.std.specs.Prelude.{◌≡◌, ◌⊎◌, true, false, List, [], ◌∷◌, ◌++◌}
use Rattle.std.specs.List.{list_any}
use Rattle.scenario_text.specs.declared.event.Event.{Event}
use Rattle.scenario_text.specs.declared.line.Line.{Line}
use Rattle.scenario_text.specs.declared.line.Line.TheVariants as line
use Rattle.world_history.specs.State.{World}
use Rattle.world_history.specs.Runs.{Carries}
use Rattle.world_history.specs.History.{StandsFor, Lawful}
pub use Rattle.cause_law.specs.Lines.{is_event}

-- lines that begin with one
abbrev pub BeginsWithEvent : List Line → Type 0
BeginsWithEvent [] = ⊥
BeginsWithEvent (l ∷ ls) = is_event l ≡ true

-- An event stands in a history behind the lines `before`, and `body` are its own lines behind its first; another event
-- follows, or the history is whole.
pub record IsOver (h before : List Line) (e : Event) (body : List Line) : Type 0 where
  pub after : List Line
  pub lines_are : h ≡ before ++ line.Event e ∷ (body ++ after)
  pub alone : list_any is_event body ≡ false
  pub closed : BeginsWithEvent after ⊎ ((after ≡ []) × ((w : World) × StandsFor w h))

-- A world stands for the lines before the event, and from there the event is carried to its end with just its lines.
pub record StandsApart (before : List Line) (e : Event) (body : List Line) : Type 0 where
  pub world : World
  pub stands : StandsFor world before
  pub next : World
  pub carries : Carries world e (line.Event e ∷ body) next

-- so it is of each event of a lawful history that is over
abbrev pub EventsStandApart : Type 0
EventsStandApart =
    (h before : List Line) (e : Event) (body : List Line) → Lawful h → IsOver h before e body
    → StandsApart before e body
