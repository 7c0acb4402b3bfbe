-- When a component times out at a client: an event says so, or the client's call awaits it and no message is left.
use Rattle.std.specs.Prelude.{◌≡◌, ◌⊎◌, ◌≤◌, ℕ, false, List, [], ◌∷◌, ◌++◌, length, slice_get, Some}
use Rattle.client_rules.specs.Messages.{awaited_of}
use Rattle.scenario_text.specs.declared.event.Call.{Call as EventCall}
use Rattle.scenario_text.specs.declared.event.Event.{Event}
use Rattle.scenario_text.specs.declared.event.Event.TheVariants as event
use Rattle.scenario_text.specs.declared.line.Line.{Line}
use Rattle.scenario_text.specs.declared.line.Line.TheVariants as line
use Rattle.server_rules.specs.Laws.{In}
use Rattle.world_history.specs.ClientNames.{Awaited}
use Rattle.world_history.specs.declared.messages.Sent.{Sent}
use Rattle.world_history.specs.State.{ClientAt}
use Rattle.world_history.specs.Moves.{op_of}
use Rattle.world_history.specs.Reading.{sent_in}
use Rattle.world_history.specs.History.{Lawful}
use Rattle.history_law.specs.Safe.{AtEachLine}
use Rattle.ready_law.specs.Events.{IsOver}
use Rattle.cause_law.specs.Lines.{IsInDo}
use Rattle.cause_law.specs.Pending.{IsTaken}
use Rattle.cause_law.specs.ReadClients.{client_after}
use Rattle.history_claims.specs.Delivered.{is_open}

-- ---- a component times out

-- the lines end with the event that says so
abbrev pub EndWith : List Line → Event → Type 0
EndWith lines e = (start : List Line) × (lines ≡ start ++ line.Event e ∷ [])

-- it is the lowest component of these commands
pub record IsLowest (awaited : List Awaited) (component : ℕ) : Type 0 where
  pub one : Awaited
  pub there : In one awaited
  pub its : one.ask.component ≡ component
  pub least : (a : Awaited) → In a awaited → component ≤ a.ask.component

-- no message from number `first` on was left undelivered, unless it was left out
abbrev pub NoneLeft : List Line → (first : ℕ) → Type 0
NoneLeft lines first = (n : ℕ) (m : Sent) → first ≤ n → slice_get (sent_in lines) n ≡ Some m → is_open m ≡ false

-- The lines end in a `do` of the client. Each message that was sent in it was delivered, and the component is the lowest of
-- those whose commands the client's call awaits.
pub record IsSilent (lines : List Line) (client component : ℕ) : Type 0 where
  pub event : IsInDo lines client
  pub none : NoneLeft lines (length (sent_in event.start))
  pub caller : ClientAt
  pub there : client_after lines client ≡ Some caller
  pub awaits : IsLowest (awaited_of caller.state.call) component

-- so it is only there that a line tells it
abbrev pub TimedOutAt : List Line → Line → Type 0
TimedOutAt before (line.TimedOut client component) =
    EndWith before (event.Timeout client component) ⊎ IsSilent before client component
TimedOutAt before l = Unit {0}

-- ---- the other way

-- behind a `do` that is over, if its client took the call, no command to a component is awaited
abbrev pub NoneAwaited : List Line → Type 0
NoneAwaited h =
    (before : List Line) (client : ℕ) (its : EventCall) (body : List Line) → IsOver h before (event.Do client its) body
    → IsTaken before client (op_of its) → (caller : ClientAt)
    → client_after (before ++ line.Event (event.Do client its) ∷ body) client ≡ Some caller
    → awaited_of caller.state.call ≡ []

-- the lines of an event `timeout` that is over begin with the line that tells it
abbrev pub TimeoutsAreTold : List Line → Type 0
TimeoutsAreTold h =
    (before : List Line) (client component : ℕ) (body : List Line) → IsOver h before (event.Timeout client component) body
    → (rest : List Line) × (body ≡ line.TimedOut client component ∷ rest)

-- A component times out exactly so.
pub record AreTimedOut (h : List Line) : Type 0 where
  pub only : AtEachLine TimedOutAt h
  pub none : NoneAwaited h
  pub told : TimeoutsAreTold h

-- in each lawful history
abbrev pub EachIsTimedOut : Type 0
EachIsTimedOut = (h : List Line) → Lawful h → AreTimedOut h
