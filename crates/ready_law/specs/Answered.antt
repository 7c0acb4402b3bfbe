-- What becomes of ready calls: each whose event is over ends in ok, within a bound of messages. What a ready read gives where its
-- event is calm is stated here too, and proved where the headline is known (`history_claims`).
use Rattle.std.specs.Prelude.{◌≡◌, ℕ, ◌+◌, ◌*◌, ◌≤◌, Bool, false, true, ◌==◌, max, List, [], ◌∷◌, ◌++◌, length}
use Rattle.std.specs.List.{list_any, sum_by}
use Rattle.file_log.specs.Judge.{IsRange}
use Rattle.file_log.specs.OneList.{written, AllAcknowledged}
use Rattle.server_rules.specs.Laws.{In}
use Rattle.scenario_text.specs.declared.event.Call.{Call}
use Rattle.scenario_text.specs.declared.event.Call.TheVariants as call
use Rattle.scenario_text.specs.declared.event.Event.TheVariants as event
use Rattle.scenario_text.specs.declared.line.Outcome.{Outcome}
use Rattle.scenario_text.specs.declared.line.Outcome.TheVariants.{WriteOk, ReadOk}
use Rattle.scenario_text.specs.declared.line.Line.{Line}
use Rattle.scenario_text.specs.declared.line.Line.TheVariants as line
use Rattle.client_rules.specs.Calls.{file_of}
use Rattle.world_history.specs.ClientNames.{CallOp, Write, Read}
use Rattle.world_history.specs.ServerNames.{Kept}
use Rattle.world_history.specs.Moves.{op_of}
use Rattle.world_history.specs.History.{Lawful}
use Rattle.world_history.specs.ReadDrives.{drive_after}
use Rattle.world_history.specs.Book.{server_seen}
use Rattle.world_history.specs.ReadLog.{log_of}
use Rattle.world_history.specs.Calm.{calm}
use Rattle.world_history.specs.Guesses.{unguessed}
use Rattle.history_law.specs.Read.{AreWritten}
use Rattle.exchange_law.specs.Text.{AreOfText, AreFew}
use Rattle.ready_law.specs.Ready.{Scene, IsReady, held_by, opposed, touched}
use Rattle.cause_law.specs.ReadClients.{client_after}
use Rattle.cause_law.specs.Down.{is_down}
use Rattle.ready_law.specs.Events.{IsOver}

-- the scene that is read off the lines of a history
abbrev pub scene_in : List Line → Scene
scene_in h = record {
  server = (server_seen h).server;
  clock = (server_seen h).clock;
  down = is_down h;
  drive = λ d. drive_after h d;
  client = λ c. client_after h c;
  unguessed = unguessed h;
}

-- ---- how a call ends

-- the outcome of a call that did what it was called for
abbrev pub IsOk : CallOp → Outcome → Type 0
IsOk (Write file offset bytes) (WriteOk n) = n ≡ length bytes
IsOk (Read file offset count) (ReadOk bytes) = Unit {0}
IsOk op o = ⊥

-- a line tells how a call of the client ended, or was refused
abbrev pub ends_call : (client : ℕ) → Line → Bool
ends_call c (line.Ended k o) = k == c
ends_call c (line.Refused k why) = k == c
ends_call c l = false

-- Among the lines one alone tells how the client's call ended, and it ended in ok.
pub record EndsOk (client : ℕ) (op : CallOp) (body : List Line) : Type 0 where
  pub front : List Line
  pub outcome : Outcome
  pub back : List Line
  pub lines_are : body ≡ front ++ line.Ended client outcome ∷ back
  pub ok : IsOk op outcome
  pub once : (list_any (ends_call client) front ≡ false) × (list_any (ends_call client) back ≡ false)

-- ---- how many messages it takes

-- the messages that a line tells of: one, or none
abbrev pub messages_at : Line → ℕ
messages_at (line.Message number from to bytes) = 1
messages_at l = 0

-- how many stripes a call touches, where one that touches none counts as one
abbrev pub stripes_touched : Kept → CallOp → ℕ
stripes_touched f op = max 1 (length (touched f op))

-- how many messages a call on the file may take, where n grants conflict with the one that it asks for
abbrev pub messages_at_most : Kept → (n : ℕ) → CallOp → ℕ
messages_at_most f n op = 16 + 4 * n + 12 * f.map.comps * (length (touched f op) + 1)

-- so many may a ready call take
abbrev pub message_bound : (s : Scene) (c : ℕ) (op : CallOp) → IsReady s c op → ℕ
message_bound s c op r =
    messages_at_most r.file.kept (length (opposed s r.file.kept c (held_by r.caller (file_of op)) op)) op

-- ---- what is to be shown

-- each ready call of a history whose event is over ends in ok, within its bound of messages
abbrev pub EachReadyIsAnswered : List Line → Type 0
EachReadyIsAnswered h =
    (before body : List Line) (c : ℕ) (x : Call) → IsOver h before (event.Do c x) body →
    (r : IsReady (scene_in before) c (op_of x)) →
    EndsOk c (op_of x) body × (sum_by messages_at body ≤ message_bound (scene_in before) c (op_of x) r)

-- so it is of each history of a scenario's text with few messages
abbrev pub ReadyIsAnswered : Type 0
ReadyIsAnswered = (h : List Line) → Lawful h → AreWritten h → AreOfText h → AreFew h → EachReadyIsAnswered h

-- Where each write that was started before was acknowledged, and the event is calm, a ready read gives the bytes that the
-- writes leave in order.
abbrev pub EachReadyReadIsPlain : List Line → Type 0
EachReadyReadIsPlain h =
    (before body : List Line) (c file offset count : ℕ) → IsOver h before (event.Do c (call.Read file offset count)) body →
    IsReady (scene_in before) c (Read file offset count) →
    calm (before ++ line.Event (event.Do c (call.Read file offset count)) ∷ body) ≡ true →
    AllAcknowledged (log_of before file) →
    (bytes : List ℕ) × In (line.Ended c (ReadOk bytes)) body
    × IsRange (written [] (log_of before file)) offset count bytes
