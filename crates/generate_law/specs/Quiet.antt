-- Nothing is guessed where nothing is injected.
use Rattle.std.specs.Prelude.{◌≡◌, ℕ, true, List}
use Rattle.std.specs.List.{AllByRecursion}
use Rattle.scenario_text.specs.declared.event.Event.TheVariants as event
use Rattle.scenario_text.specs.declared.line.Line.{Line}
use Rattle.scenario_text.specs.declared.line.Line.TheVariants as line
use Rattle.world_history.specs.State.{World}
use Rattle.world_history.specs.Guesses.{unguessed}
use Rattle.generate_law.specs.Plays.{Plays}
use Rattle.generate_law.specs.Scenario.{scenario_of}

-- ---- injected bytes

-- the line has no event that injects bytes
abbrev pub InjectsNone : Line → Type 0
InjectsNone (line.Event (event.Inject d bytes)) = ⊥
InjectsNone l = Unit {0}

-- then nothing was guessed
abbrev pub UninjectedIsUnguessed : Type 0
UninjectedIsUnguessed = (h : List Line) → AllByRecursion InjectsNone h → unguessed h ≡ true

-- so nothing is guessed in the scenario
abbrev pub ScenarioIsUnguessed : Type 0
ScenarioIsUnguessed =
    (seed calls : ℕ) (w : World) (h : List Line) → Plays (scenario_of seed calls) w h → unguessed h ≡ true
