-- Behind the line of an event that calls a client, a call of the client is pending by the log.
use Rattle.std.proofs.Common.{◌≡◌, ℕ, Option, Some, None, refl, sym, ap, subst, ◌∙◌}
use Rattle.osd_objects.proofs.Entries.{lookup_inserted}
use Rattle.scenario_text.specs.declared.event.Call.{Call}
use Rattle.scenario_text.specs.declared.event.Event.{Event}
use Rattle.scenario_text.specs.declared.event.Event.TheVariants as event
use Rattle.scenario_text.specs.declared.event.Sender.TheVariants as sender
use Rattle.client_rules.specs.History.{Input}
use Rattle.client_rules.specs.History as inputs
use Rattle.world_history.specs.ClientNames.{CallOp}
use Rattle.world_history.specs.Moves.{Action, Opens, op_of}
use Rattle.world_history.specs.ReadLog.{Pending, Log, called, called_beside, log_after_event}
use Rattle.world_history.specs.State.{at_number}
use Rattle.history_law.specs.Moves.{ForClient, asked_in}
use Rattle.history_claims.specs.Logged.{IsCalled}

-- the action calls the client
abbrev pub Asks : Action → (client : ℕ) → CallOp → Type 0
Asks a c op = asked_in a ≡ Some (record { number = c; input = inputs.Calls op })

called_there : (l : Log) (c : ℕ) (x : Call) → IsCalled (called l c x) c
called_there l c x = by (at_number l.pending c) refl
  where
    by : (o : Option Pending) → at_number l.pending c ≡ o → IsCalled (called_beside l c x o) c
    by None none = (record { call = x; entry = None }, lookup_inserted l.pending c _)
    by (Some p) there = (p, there)

-- what is handed to client k is what is handed to client c
abbrev handed : ℕ → Input → ForClient
handed k i = record { number = k; input = i }

abbrev Both : (k : ℕ) → Input → (c : ℕ) → CallOp → Type 0
Both k i c op = Some (handed k i) ≡ Some (handed c (inputs.Calls op))

same_input : (k : ℕ) (i : Input) (c : ℕ) (op : CallOp) → Both k i c op → (k ≡ c) × (i ≡ inputs.Calls op)
same_input k i c op is =
    let one : handed k i ≡ handed c (inputs.Calls op) = cc is in
    (ap (λ (f : ForClient). f.number) one, ap (λ (f : ForClient). f.input) one)

its_client : (l : Log) (k : ℕ) (x : Call) (c : ℕ) (op : CallOp) → Both k (inputs.Calls (op_of x)) c op
    → IsCalled (called l k x) c
its_client l k x c op is = subst (IsCalled (called l k x)) (same_input k (inputs.Calls (op_of x)) c op is).0 (called_there l k x)

pub called_by : (l : Log) (e : Event) (c : ℕ) (op : CallOp) → Asks (Opens e) c op → IsCalled (log_after_event l e) c
called_by l (event.Do k x) c op is = its_client l k x c op is
called_by l (event.Call k x) c op is = its_client l k x c op is
called_by l (event.Resend (sender.Client k)) c op is = absurd (cc (same_input k inputs.Resends c op is).1)
called_by l (event.Timeout k j) c op is = absurd (cc (same_input k (inputs.TimesOut j) c op is).1)
called_by l (event.Leave k) c op is = absurd (cc (same_input k inputs.Leaves c op is).1)
called_by l e c op is = absurd (cc is)

-- nothing else than an event calls a client
pub later_calls_none : {A : Type 0} (a : Action) (k j : ℕ) → asked_in a ≡ Some (record { number = k; input = inputs.TimesOut j })
    → (c : ℕ) (op : CallOp) → Asks a c op → A
later_calls_none a k j late c op is = absurd (cc (same_input k (inputs.TimesOut j) c op (sym late ∙ is)).1)
