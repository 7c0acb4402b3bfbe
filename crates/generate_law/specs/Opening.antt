-- After its first events the scenario's parties rest, and so they do after each call. So each call ends in ok.
use Rattle.std.specs.Prelude.{ℕ, List, ◌∷◌, [], ◌++◌}
use Rattle.scenario_text.specs.declared.event.Call.{Call}
use Rattle.scenario_text.specs.declared.event.Event.{Event}
use Rattle.scenario_text.specs.declared.event.Event.TheVariants.{Client, Do}
use Rattle.scenario_text.specs.declared.line.Line.{Line}
use Rattle.world_history.specs.State.{World}
use Rattle.world_history.specs.Moves.{op_of}
use Rattle.exchange_law.specs.Text.{AreFew}
use Rattle.ready_law.specs.Answered.{EndsOk}
use Rattle.ready_law.specs.Events.{IsOver}
use Rattle.ready_law.specs.Ready.{scene_of}
use Rattle.generate_law.specs.Plays.{Plays}
use Rattle.generate_law.specs.Rests.{FILE_SIZE, Rests}
use Rattle.generate_law.specs.Scenario.{each_below, makes_drive, makes_file, scenario_of}

-- ---- at rest

-- six drives, three clients and the file
abbrev pub before_calls : List Event
before_calls = each_below makes_drive 6 ++ (each_below (λ c. Client c) 3 ++ makes_file ∷ [])

-- After them the parties rest: the file is made, its job is over, and none of its components is missing.
abbrev pub OpeningRests : Type 0
OpeningRests = (w : World) (h : List Line) → Plays before_calls w h → Rests 0 (scene_of w h)

-- So they do after the first call and n others, if there are as few messages as in each history within the limit of kept bytes.
abbrev pub EachCallRests : Type 0
EachCallRests =
    (seed n : ℕ) (w : World) (h : List Line) → Plays (scenario_of seed n) w h → AreFew h → Rests FILE_SIZE (scene_of w h)

-- ---- each call

-- each call of the scenario whose event is over ended in ok
abbrev pub ScenarioCallsEndInOk : Type 0
ScenarioCallsEndInOk =
    (seed calls : ℕ) (w : World) (h : List Line) → Plays (scenario_of seed calls) w h → AreFew h
    → (before body : List Line) (c : ℕ) (x : Call) → IsOver h before (Do c x) body → EndsOk c (op_of x) body
