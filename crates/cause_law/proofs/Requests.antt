-- At each moment the request whose answer a client awaits fits, but for the length of a report.
use Rattle.std.proofs.Common.{◌≡◌, ◌==◌, ℕ, ◌-◌, ◌^◌, ◌≤◌, ◌<◌, ◌∷◌, Bool, true, false, List, Option, Some, None, refl, subst, arith, if◌then◌else◌}
use Rattle.scenario_text.specs.declared.names.TheConstants.{CLIENTS}
use Rattle.scenario_text.specs.declared.event.Call.{Call}
use Rattle.scenario_text.specs.declared.event.Call.TheVariants as call
use Rattle.scenario_text.specs.declared.event.Event.{Event}
use Rattle.scenario_text.specs.declared.event.Event.TheVariants as event
use Rattle.scenario_text.specs.declared.line.Line.{Line}
use Rattle.scenario_text.specs.declared.line.Line.TheVariants as line
use Rattle.scenario_text.specs.Parts.{AllFit}
use Rattle.scenario_text.specs.Spelling.{Fits, call_parts}
use Rattle.client_rules.specs.declared.limits.TheConstants.{GREATEST_SEQUENCE}
use Rattle.world_history.specs.ClientNames.{Client, Request}
use Rattle.world_history.specs.State.{World, ClientAt, at_number, empty_world}
use Rattle.world_history.specs.Moves.{Action, Opens, Delivers, TimesOut, Pends, op_of}
use Rattle.world_history.specs.Plans.{Rule, due_by}
use Rattle.world_history.specs.Sending.{Move, move}
use Rattle.world_history.proofs.Always.{opening, IsKept}
use Rattle.world_history.proofs.ReadMessages.{never_opens}
use Rattle.server_rules.specs.Slots.{slot_of}
use Rattle.exchange_law.specs.Messages.{last_before}
use Rattle.exchange_law.specs.InStep.{StandsAt, state_of, ClientsAreInStep}
use Rattle.exchange_law.specs.Text.{AreOfText}
use Rattle.exchange_law.proofs.CountGrowing.{text_front, text_behind}
use Rattle.exchange_law.proofs.CountMoments.{at_moment}
use Rattle.cause_law.specs.Readable.{ShortRequestsFit}
use Rattle.cause_law.proofs.Moves.{AllClients, IsKeptGiven, Given, acts_go}
use Rattle.cause_law.proofs.Asking.{ClientSmall, OutSmall}
use Rattle.cause_law.proofs.ReadableSteps.{HasFile, new_small, step_small}

-- ---- clients of a text

abbrev HasNumber : ℕ → Type 0
HasNumber c = c < CLIENTS

record IsAsking (c : ℕ) (x : Client) : Type 0 where
  number : HasNumber c
  small : ClientSmall x

asking_kept : IsKeptGiven HasNumber HasFile IsAsking
asking_kept = record {
  made = λ c named. record { number = named; small = new_small c };
  steps = λ c x i k given. record { number = k.number; small = step_small x i k.small given };
}

call_file : (x : Call) → AllFit (call_parts x) → HasFile (op_of x)
call_file (call.Write file offset bytes) f = omega (arith, f.1.0)
call_file (call.Read file offset count) f = omega (arith, f.1.0)

given_event : (e : Event) → Fits e → Given HasNumber HasFile (Opens e)
given_event (event.Do c x) f = call_file x f.1.1
given_event (event.Call c x) f = call_file x f.1.1
given_event (event.Client c) f = f.1.0
given_event e f = tt

given_rule : (w : World) (r : Rule) (action : Action) → due_by w r ≡ Some action → Given HasNumber HasFile action
given_rule w r (Delivers number) due = tt
given_rule w r (TimesOut c component) due = tt
given_rule w r (Pends c) due = tt
given_rule w r (Opens e) due = absurd (never_opens w r e due)

-- ---- each moment

abbrev AreAsking : World → List Line → Type 0
AreAsking w h = AreOfText h → AllClients IsAsking w.clients

move_asks : (w : World) (m : Move) → Given HasNumber HasFile m.action → AllClients IsAsking w.clients
    → AllClients IsAsking (move w m).world.clients
move_asks w m g all = acts_go HasNumber HasFile IsAsking asking_kept w all m.chosen m.action g

none_there : AllClients IsAsking empty_world.clients
none_there c a found = absurd (cc found)

all_asking : IsKept AreAsking
all_asking = record {
  starts = λ text. none_there;
  opens =
      λ w h e chosen k allowed text.
      let lines = (move w (opening e chosen)).lines in
      move_asks w (opening e chosen) (given_event e (text_behind h (line.Event e ∷ lines) text).0)
      (k (text_front h (line.Event e ∷ lines) text));
  moves =
      λ w h r m k due text.
      move_asks w m (given_rule w r m.action due) (k (text_front h (move w m).lines text));
}

-- ---- what is outstanding

before_fits : (n : ℕ) → n ≤ GREATEST_SEQUENCE → last_before n < 2 ^ 32
before_fits n l = either (n == 0)
  where
    either : (b : Bool) → (if b then GREATEST_SEQUENCE else n - 1) < 2 ^ 32
    either true = omega arith
    either false = omega (arith, l)

-- of a client that is there
asked_fits : (c : ℕ) (o : Option ClientAt) (r : Request) → ((a : ClientAt) → o ≡ Some a → IsAsking c a.state)
    → (state_of c o).outstanding ≡ Some r → (c < CLIENTS) × OutSmall (Some r)
asked_fits c None r k e = absurd (cc e)
asked_fits c (Some a) r k e = let it = k a refl in (it.number, subst OutSmall e it.small.outstanding)

pub short_requests_fit : ClientsAreInStep → ShortRequestsFit
short_requests_fit step w h m text c r out short =
    let in_step = step w h m c in
    let stands : StandsAt h c (slot_of w.server.slots c) (last_before (state_of c (at_number w.clients c)).next)
    (Some r) =
    subst (StandsAt h c (slot_of w.server.slots c) (last_before (state_of c (at_number w.clients c)).next)) out
    in_step.stands in
    let it = asked_fits c (at_number w.clients c) r (at_moment AreAsking all_asking w h m text c) out in
    record {
      client = omega (arith, stands.client, it.0);
      sequence =
          omega (arith, stands.sequence, before_fits (state_of c (at_number w.clients c)).next in_step.next);
      file = it.1.0;
      args = it.1.1 short;
    }
