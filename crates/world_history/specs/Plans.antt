-- Which moves an event has: what it begins with, and then what is due at each moment.
use Rattle.std.specs.Prelude.{ℕ, Bool, true, ◌+◌, ◌&&◌, not, nat_le, List, [], ◌∷◌, length, Option, Some, None, is_some, is_err, if◌then◌else◌}
use Rattle.world_history.specs.ClientNames as client_rules
use Rattle.client_rules.specs.Steps.{calls, awaits}
use Rattle.scenario_text.specs.declared.event.Event.{Event}
use Rattle.scenario_text.specs.declared.event.Event.TheVariants as event
use Rattle.world_history.specs.State.{Posted, ClientAt, World, at_number}
use Rattle.world_history.specs.Moves.{Action, Opens, Delivers, TimesOut, Pends, op_of}

-- ---- what is due where messages are delivered

-- neither delivered nor left out
abbrev pub is_pending : Posted → Bool
is_pending p = not p.delivered && not p.dropped

-- the lowest number of a pending message, not below `first`; the messages are those from number `k` on
unfoldable pub pending_from : (first k : ℕ) → List Posted → Option ℕ
pending_from first k [] = None
pending_from first k (p ∷ ps) = if nat_le first k && is_pending p then Some k else pending_from first (k + 1) ps

-- the same among all messages
abbrev pub next_pending : World → (first : ℕ) → Option ℕ
next_pending w first = pending_from first 0 w.network.messages

-- where none is left: the lowest component that the call awaits times out; a call that awaits the server is left
-- pending; else it has ended
abbrev pub when_quiet : (client : ℕ) → client_rules.Client → client_rules.Awaits → Option Action
when_quiet c a (client_rules.ADrive component) = Some (TimesOut c component)
when_quiet c a awaited = if is_some a.call then Some (Pends c) else None

-- of a client that there is
abbrev pub quiet_at : (client : ℕ) → Option ClientAt → Option Action
quiet_at c None = None
quiet_at c (Some a) = when_quiet c a.state (awaits a.state)

-- nobody's call is looked at where no client is named
abbrev pub quiet_of : World → Option ℕ → Option Action
quiet_of w None = None
quiet_of w (Some c) = quiet_at c (at_number w.clients c)

-- the lowest pending message comes first
abbrev pub due_pending : World → (client : Option ℕ) → Option ℕ → Option Action
due_pending w c (Some number) = Some (Delivers number)
due_pending w c None = quiet_of w c

-- ---- plans

-- what is done behind the first action: nothing; or messages from a number on are delivered, for a client's call
pub data Rule : Type 0 where
  Alone : Rule
  Prompt : (first : ℕ) → (client : Option ℕ) → Rule

-- what an event still has to do
pub record Plan : Type 0 where
  pub opening : Option Event
  pub rule : Rule

-- what is due next by the rule
abbrev pub due_by : World → Rule → Option Action
due_by w Alone = None
due_by w (Prompt first c) = due_pending w c (next_pending w first)

-- what an event begins with comes first
abbrev pub due_in : World → Rule → Option Event → Option Action
due_in w r (Some e) = Some (Opens e)
due_in w r None = due_by w r

-- what is due next; where nothing is, the event is over
abbrev pub due : Plan → World → Option Action
due p w = due_in w p.rule p.opening

-- behind the note that a call is left pending comes nothing
abbrev pub rule_after : Rule → Action → Rule
rule_after r (Pends c) = Alone
rule_after r action = r

-- what is still to do behind an action
abbrev pub went_on : Plan → Action → Plan
went_on p action = record { opening = None; rule = rule_after p.rule action }

-- ---- the plan of an event

-- a call is refused
abbrev pub is_refused : Option ClientAt → client_rules.CallOp → Bool
is_refused None op = true
is_refused (Some a) op = is_err (calls a.state op)

-- the messages sent in the event are delivered; those of a refused call aren't, since there are none
abbrev pub prompt_call : World → (client : ℕ) → client_rules.CallOp → Rule
prompt_call w c op =
    if is_refused (at_number w.clients c) op then Alone else Prompt (length w.network.messages) (Some c)

unfoldable pub rule_of : World → Event → Rule
rule_of w (event.Do c x) = prompt_call w c (op_of x)
rule_of w (event.File f m tag) = Prompt (length w.network.messages) None
rule_of w (event.ZonedFile f m tag) = Prompt (length w.network.messages) None
rule_of w event.Settle = Prompt 0 None
rule_of w e = Alone

abbrev pub plan_of : World → Event → Plan
plan_of w e = record { opening = Some e; rule = rule_of w e }
