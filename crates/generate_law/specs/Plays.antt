-- The scenario is played: a world stands for a history with its events.
use Rattle.std.specs.Prelude.{◌≡◌, ℕ, List, ◌∷◌, ◌++◌, map, None}
use Rattle.scenario_text.specs.declared.event.Event.{Event}
use Rattle.scenario_text.specs.declared.line.Line.{Line}
use Rattle.world_history.specs.State.{World}
use Rattle.world_history.specs.Refusals.{refusal}
use Rattle.world_history.specs.History.{Step, StandsFor}
use Rattle.generate_law.specs.Scenario.{scenario_of}

-- a world stands for a history, and these are its events
pub record Plays (events : List Event) (w : World) (h : List Line) : Type 0 where
  pub stands : StandsFor w h
  pub events_are : map (λ (s : Step). s.event) stands.steps ≡ events

-- ---- no event is refused

-- whatever comes next in the scenario isn't refused
abbrev pub NoneIsRefused : Type 0
NoneIsRefused =
    (seed calls : ℕ) (front : List Event) (e : Event) (back : List Event) (w : World) (h : List Line)
    → scenario_of seed calls ≡ front ++ e ∷ back → Plays front w h → refusal w e ≡ None
