-- A call of the scenario takes few messages, where the parties rest before it.
use Rattle.std.specs.Prelude.{◌≤◌, ◌%◌, ℕ, List}
use Rattle.std.specs.List.{sum_by}
use Rattle.scenario_text.specs.declared.event.Call.{Call}
use Rattle.scenario_text.specs.declared.event.Event.TheVariants as event
use Rattle.scenario_text.specs.declared.line.Line.{Line}
use Rattle.world_history.specs.State.{World}
use Rattle.world_history.specs.History.{StandsFor, Lawful}
use Rattle.history_law.specs.Read.{AreWritten}
use Rattle.exchange_law.specs.Text.{AreOfText, AreFew}
use Rattle.ready_law.specs.Answered.{messages_at}
use Rattle.ready_law.specs.Events.{IsOver}
use Rattle.ready_law.specs.Ready.{scene_of}
use Rattle.generate_law.specs.Rests.{FILE_SIZE, Rests}
use Rattle.generate_law.specs.Scenario.{call_of, first_write}

-- the most messages of a call's event: 16, 4 for each grant of three clients, and 12 for each of five components in two stripes
-- and one more
abbrev pub MESSAGES_A_CALL : ℕ
MESSAGES_A_CALL = 208

-- In a history of a scenario's text the event of the call, if it is over and the parties rested before it, sent at most so many.
abbrev pub TakesFew : (size client : ℕ) → Call → Type 0
TakesFew size c x =
    (h : List Line) → Lawful h → AreWritten h → AreOfText h → AreFew h → (before body : List Line)
    → IsOver h before (event.Do c x) body → (w : World) → StandsFor w before → Rests size (scene_of w before)
    → sum_by messages_at body ≤ MESSAGES_A_CALL

-- so it is of each call, and of the first one
abbrev pub EachCallTakesFew : Type 0
EachCallTakesFew = (k x : ℕ) → TakesFew FILE_SIZE (k % 3) (call_of k x)

abbrev pub FirstCallTakesFew : Type 0
FirstCallTakesFew = TakesFew 0 0 first_write
