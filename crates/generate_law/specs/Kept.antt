-- Few bytes are kept in the scenario, so it comes to its end: it is calm, and each of its calls ends in ok.
use Rattle.std.specs.Prelude.{◌≡◌, ◌≤◌, ◌+◌, ◌*◌, ℕ, true, List, ◌∷◌, ◌++◌}
use Rattle.scenario_text.specs.declared.event.Call.{Call}
use Rattle.scenario_text.specs.declared.event.Event.{Event}
use Rattle.scenario_text.specs.declared.event.Event.TheVariants.{Do}
use Rattle.scenario_text.specs.declared.line.Line.{Line}
use Rattle.world_history.specs.State.{World}
use Rattle.world_history.specs.Calm.{calm}
use Rattle.world_history.specs.Guesses.{unguessed}
use Rattle.world_history.specs.Moves.{op_of}
use Rattle.world_history.specs.Runs.{FillsUp}
use Rattle.exchange_law.specs.Text.{AreFew}
use Rattle.ready_law.specs.Answered.{EndsOk}
use Rattle.ready_law.specs.Events.{IsOver}
use Rattle.generate_law.specs.Plays.{Plays}
use Rattle.generate_law.specs.Scenario.{scenario_of}

-- ---- how much is kept

-- the most calls for which it is shown
abbrev pub MOST_CALLS : ℕ
MOST_CALLS = 1000

-- the most bytes of a message in a call: a command has 256 and at most 1,000 of the call's data
abbrev pub BYTES_A_MESSAGE : ℕ
BYTES_A_MESSAGE = 1256

-- a call keeps at most so many bytes: 208 messages, and 1,000 bytes of the log. So does what comes before all calls.
abbrev pub BYTES_A_CALL : ℕ
BYTES_A_CALL = 262248

-- after what comes before the calls, the first call and n others few bytes are kept
abbrev pub FewAreKept : Type 0
FewAreKept =
    (seed n : ℕ) (w : World) (h : List Line) → n ≤ MOST_CALLS → Plays (scenario_of seed n) w h
    → w.network.kept ≤ BYTES_A_CALL * (n + 2)

-- so the scenario has few messages
abbrev pub ScenarioIsFew : Type 0
ScenarioIsFew =
    (seed n : ℕ) (w : World) (h : List Line) → n ≤ MOST_CALLS → Plays (scenario_of seed n) w h → AreFew h

-- and no event of it stops at the limit of kept bytes
abbrev pub NoneFillsUp : Type 0
NoneFillsUp =
    (seed calls : ℕ) (front : List Event) (e : Event) (back : List Event) (w : World) (h cut : List Line)
    → calls ≤ MOST_CALLS → scenario_of seed calls ≡ front ++ e ∷ back → Plays front w h → FillsUp w e cut → ⊥

-- ---- the whole scenario

-- it is calm, nothing in it is guessed, it has few messages, and each of its calls whose event is over ended in ok
pub record WentWell (h : List Line) : Type 0 where
  pub calm : calm h ≡ true
  pub unguessed : unguessed h ≡ true
  pub few : AreFew h
  pub ok : (before body : List Line) (c : ℕ) (x : Call) → IsOver h before (Do c x) body → EndsOk c (op_of x) body

abbrev pub ScenarioGoesWell : Type 0
ScenarioGoesWell =
    (seed calls : ℕ) (w : World) (h : List Line) → calls ≤ MOST_CALLS → Plays (scenario_of seed calls) w h → WentWell h
