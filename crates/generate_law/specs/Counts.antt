-- What the scenario comes to, in numbers.
use Rattle.std.specs.Prelude.{◌≡◌, ◌+◌, ◌/◌, ℕ, List}
use Rattle.std.specs.List.{fold}
use Rattle.scenario_text.specs.declared.event.Event.{Event}
use Rattle.scenario_text.specs.declared.line.Line.{Line}
use Rattle.world_history.specs.declared.summary.Summary.{Summary}
use Rattle.world_history.specs.State.{World}
use Rattle.world_history.specs.Summing.{summary_of, no_summary, counts_event}
use Rattle.generate_law.specs.Plays.{Plays}
use Rattle.generate_law.specs.Scenario.{scenario_of}

-- ---- calls

-- the calls, writes and reads are those of the scenario's own events
pub record HasItsCalls (events : List Event) (s : Summary) : Type 0 where
  pub calls : s.calls ≡ (fold counts_event no_summary events).calls
  pub writes : s.writes ≡ (fold counts_event no_summary events).writes
  pub reads : s.reads ≡ (fold counts_event no_summary events).reads

-- so it is of any history, by its events
abbrev pub CallsAreOfEvents : Type 0
CallsAreOfEvents = (events : List Event) (w : World) (h : List Line) → Plays events w h → HasItsCalls events (summary_of h)

-- The scenario has one call more than are asked for. It begins with a write, and then each second one is a write.
pub record HasCounts (calls : ℕ) (s : Summary) : Type 0 where
  pub calls_are : s.calls ≡ calls + 1
  pub writes : s.writes ≡ (calls + 1) / 2 + 1
  pub reads : s.reads ≡ calls / 2

abbrev pub ScenarioHasCounts : Type 0
ScenarioHasCounts =
    (seed calls : ℕ) (w : World) (h : List Line) → Plays (scenario_of seed calls) w h → HasCounts calls (summary_of h)
