-- What the event of a ready call tells: its own client alone sends commands in it.
use Rattle.std.specs.Prelude.{◌≡◌, ◌⊎◌, ℕ, List}
use Rattle.server_rules.specs.Laws.{In}
use Rattle.scenario_text.specs.declared.event.Call.{Call}
use Rattle.scenario_text.specs.declared.event.Event.TheVariants as event
use Rattle.scenario_text.specs.declared.line.Party.TheVariants as party
use Rattle.scenario_text.specs.declared.line.Line.{Line}
use Rattle.scenario_text.specs.declared.line.Line.TheVariants as line
use Rattle.world_history.specs.Moves.{op_of}
use Rattle.world_history.specs.History.{Lawful}
use Rattle.history_law.specs.Moves.{IsQuiet}
use Rattle.history_law.specs.Read.{AreWritten}
use Rattle.exchange_law.specs.Text.{AreOfText, AreFew}
use Rattle.ready_law.specs.Answered.{scene_in, EachReadyReadIsPlain}
use Rattle.ready_law.specs.Events.{IsOver}
use Rattle.ready_law.specs.Ready.{IsReady}

-- ---- one client alone

-- a command that is sent at the line, and a call that ends there, is the client's
abbrev pub IsBy : (client : ℕ) → Line → Type 0
IsBy c (line.Message number (party.Client k) (party.Drive d) bytes) = k ≡ c
IsBy c (line.Ended k o) = k ≡ c
IsBy c (line.Refused k why) = k ≡ c
IsBy c l = Unit {0}

-- so it is of the line, or no party goes on there
abbrev pub IsOnlyOf : (client : ℕ) → Line → Type 0
IsOnlyOf c l = IsQuiet l ⊎ IsBy c l

abbrev pub AreOnlyOf : (client : ℕ) → List Line → Type 0
AreOnlyOf c ls = (l : Line) → In l ls → IsOnlyOf c l

-- In a lawful history of a scenario's text with few messages, the lines of the event of a ready call, if it is over, are of its
-- client alone: what it recalls of others they give back without a command.
abbrev pub ReadyCallsAreAlone : Type 0
ReadyCallsAreAlone =
    (h : List Line) → Lawful h → AreWritten h → AreOfText h → AreFew h → (before body : List Line) (c : ℕ) (x : Call) →
    IsOver h before (event.Do c x) body → IsReady (scene_in before) c (op_of x) → AreOnlyOf c body

-- ---- what is claimed

-- A ready read of a calm event gives the bytes that the writes leave in order, where each was acknowledged: in each lawful
-- history of a scenario's text with few messages.
abbrev pub ReadyReadsArePlain : Type 0
ReadyReadsArePlain = (h : List Line) → Lawful h → AreWritten h → AreOfText h → AreFew h → EachReadyReadIsPlain h
