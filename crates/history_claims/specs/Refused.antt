-- When a client refuses what an event asks of it.
use Rattle.std.specs.Prelude.{◌≡◌, ◌≢◌, ◌⊎◌, ◌<◌, ◌+◌, ℕ, true, List, [], ◌∷◌, ◌++◌, Some, None}
use Rattle.data_map.specs.declared.ranges.TheConstants.{MAX_FILE_SIZE}
use Rattle.client_rules.specs.declared.limits.TheConstants.{MAX_CALL}
use Rattle.client_rules.specs.Calls.{span_of}
use Rattle.client_rules.specs.Steps.{is_spent}
use Rattle.scenario_text.specs.declared.event.Event.{Event}
use Rattle.scenario_text.specs.declared.event.Event.TheVariants as event
use Rattle.scenario_text.specs.declared.line.Line.{Line}
use Rattle.scenario_text.specs.declared.line.Line.TheVariants as line
use Rattle.scenario_text.specs.declared.line.Refusal.{Refusal}
use Rattle.scenario_text.specs.declared.line.Refusal.TheVariants.{Busy, BadRange, SlotSpent}
use Rattle.world_history.specs.ClientNames.{Client, CallOp, Span}
use Rattle.world_history.specs.State.{ClientAt}
use Rattle.world_history.specs.Moves.{op_of}
use Rattle.world_history.specs.History.{Lawful}
use Rattle.history_law.specs.Safe.{AtEachLine}
use Rattle.ready_law.specs.Events.{IsOver}
use Rattle.cause_law.specs.ReadClients.{client_after}

-- ---- why

-- the range is longer than a call may be, or ends behind the greatest size of a file
abbrev pub PassesALimit : Span → Type 0
PassesALimit r = (MAX_CALL < r.length) ⊎ (MAX_FILE_SIZE < r.offset + r.length)

-- A client refuses a call for the first of these causes that applies: another call is pending; the range passes a limit; no
-- number is left for its requests.
abbrev pub RefusesCall : Client → CallOp → Refusal → Type 0
RefusesCall c op Busy = c.call ≢ None
RefusesCall c op BadRange = (c.call ≡ None) × PassesALimit (span_of op)
RefusesCall c op SlotSpent = (c.call ≡ None) × (PassesALimit (span_of op) → ⊥) × (is_spent c.next ≡ true)

-- and it doesn't leave while a call is pending
abbrev pub RefusesToLeave : Client → Refusal → Type 0
RefusesToLeave c Busy = c.call ≢ None
RefusesToLeave c why = ⊥

-- behind these lines the client is there, and refuses so
pub record IsRefused (before : List Line) (client : ℕ) (Refuses : Client → Type 0) : Type 0 where
  pub caller : ClientAt
  pub there : client_after before client ≡ Some caller
  pub refuses : Refuses caller.state

-- the event asks something of the client that it refuses for this cause
abbrev pub RefusesIn : (before : List Line) → Event → (client : ℕ) → Refusal → Type 0
RefusesIn before (event.Do c x) client why = (c ≡ client) × IsRefused before c (λ a. RefusesCall a (op_of x) why)
RefusesIn before (event.Call c x) client why = (c ≡ client) × IsRefused before c (λ a. RefusesCall a (op_of x) why)
RefusesIn before (event.Leave c) client why = (c ≡ client) × IsRefused before c (λ a. RefusesToLeave a why)
RefusesIn before e client why = ⊥

-- ---- its line

-- it stands right behind such an event
pub record WasRefused (before : List Line) (client : ℕ) (why : Refusal) : Type 0 where
  pub start : List Line
  pub event : Event
  pub lines_are : before ≡ start ++ line.Event event ∷ []
  pub refuses : RefusesIn start event client why

abbrev pub RefusedAt : List Line → Line → Type 0
RefusedAt before (line.Refused client why) = WasRefused before client why
RefusedAt before l = Unit {0}

-- and such an event, if it is over, has just this line
abbrev pub RefusalsAreTold : List Line → Type 0
RefusalsAreTold h =
    (before : List Line) (e : Event) (body : List Line) → IsOver h before e body → (client : ℕ) (why : Refusal)
    → RefusesIn before e client why → body ≡ line.Refused client why ∷ []

-- A client refuses what it has to, and nothing else.
pub record AreRefused (h : List Line) : Type 0 where
  pub only : AtEachLine RefusedAt h
  pub told : RefusalsAreTold h

-- in each lawful history
abbrev pub EachIsRefused : Type 0
EachIsRefused = (h : List Line) → Lawful h → AreRefused h
