-- The scenario is calm: no drive of it fails, so where no line tells that a component becomes missing, no stripe is ever short.
use Rattle.std.specs.Prelude.{◌≡◌, ℕ, true, List}
use Rattle.std.specs.List.{AllByRecursion}
use Rattle.scenario_text.specs.declared.line.Line.{Line}
use Rattle.world_history.specs.State.{World}
use Rattle.world_history.specs.Calm.{calm}
use Rattle.lossless_law.specs.Lossless.{TellsNoLoss}
use Rattle.generate_law.specs.Plays.{Plays}
use Rattle.generate_law.specs.Scenario.{scenario_of}

-- no component is told to be without space or to be reported, so the scenario is calm
abbrev pub ScenarioIsCalm : Type 0
ScenarioIsCalm =
    (seed calls : ℕ) (w : World) (h : List Line) → Plays (scenario_of seed calls) w h → AllByRecursion TellsNoLoss h
    → calm h ≡ true
