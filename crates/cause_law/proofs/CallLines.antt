-- What is read of a client's call is what its rules make of what comes to it in the lines.
use Rattle.std.proofs.Common.{◌≡◌, ◌⊎◌, ℕ, ◌∷◌, [], List, Bool, true, false, Option, Some, None, Result, Ok, Err, ◌==◌, fold, slice_get, option_map, is_some, refl, sym, ap, subst, ◌∙◌, inl, inr, if◌then◌else◌}
use Rattle.world_history.specs.ClientNames.{Client, CallOp, CallErr, Outcome}
use Rattle.client_rules.specs.Messages.{Message, Step}
use Rattle.client_rules.specs.Steps.{new_client, calls}
use Rattle.client_rules.specs.Envelopes.{message_in}
use Rattle.client_rules.specs.History.{Input, Calls, TimesOut, Leaves, Resends, unless_refused, step}
use Rattle.scenario_text.specs.declared.event.Event.{Event}
use Rattle.scenario_text.specs.declared.event.Event.TheVariants as event
use Rattle.scenario_text.specs.declared.event.Sender.TheVariants as sender
use Rattle.scenario_text.specs.declared.line.Party.{Party}
use Rattle.scenario_text.specs.declared.line.Line.{Line}
use Rattle.scenario_text.specs.declared.line.Line.TheVariants as line
use Rattle.world_history.specs.State.{ClientAt}
use Rattle.world_history.specs.declared.messages.Sent.{Sent}
use Rattle.world_history.specs.Spelled.{node_of}
use Rattle.world_history.specs.Moves.{op_of}
use Rattle.cause_law.specs.Met.{Met, met_after, grant_under, failure_in}
use Rattle.cause_law.specs.Caused.{failure_of, WritesAll, call_in}
use Rattle.cause_law.specs.ReadClients.{went, goes, called_as, called, left, halted, hears_read, hears, is_client, hears_sent, where_it_is, client_after_event, client_after_line}
use Rattle.cause_law.specs.ReadCalls.{call_input, only_for, event_input, read_input, sent_input, line_input, LastStep, stepped, after_input, CallSeen, sees_call, call_seen}
use Rattle.cause_law.proofs.Steps.{IsTraced, Told}
use Rattle.cause_law.proofs.Runs.{step_good, traced_new}

-- ---- one line

-- a client that has done nothing
abbrev pub IsNew : ClientAt → Type 0
IsNew b = (k : ℕ) × (b.state ≡ new_client k 1)

traced_at_first : (b : ClientAt) (ms : List Met) → IsNew b → IsTraced b.state ms
traced_at_first b ms new = subst (λ (x : Client). IsTraced x ms) (sym new.1) (traced_new new.0 1 ms)

-- what a line makes of a client to which this comes, or nothing
abbrev pub Becomes : ClientAt → Option Input → Option ClientAt → Type 0
Becomes a (Some i) o = o ≡ Some (went a i (step a.state i))
Becomes a None o = (b : ClientAt) × (o ≡ Some b) × ((b.state ≡ a.state) ⊎ IsNew b)

stays : (a : ClientAt) → Becomes a None (Some a)
stays a = (a, refl, inl refl)

only : (k c : ℕ) (a : ClientAt) (f : ClientAt → ClientAt) (i : Option Input) → Becomes a i (Some (f a))
    → Becomes a (only_for k c i) (where_it_is k c f (Some a))
only k c a f i x = by_test (k == c)
  where
    by_test : (b : Bool) → Becomes a (if b then i else None) (if b then option_map f (Some a) else Some a)
    by_test true = x
    by_test false = stays a

calls_it : (a : ClientAt) (op : CallOp) (r : Result Step CallErr) → calls a.state op ≡ r
    → Becomes a (call_input op r) (Some (called_as a op r))
calls_it a op (Err e) is = stays a
calls_it a op (Ok s) is = ap (λ (t : Step). Some (went a (Calls op) t)) (sym (ap (unless_refused a.state) is))

leaves_it : (a : ClientAt) (b : Bool)
    → Becomes a (if b then None else Some Leaves) (Some (if b then a else goes Leaves a))
leaves_it a true = stays a
leaves_it a false = refl

reads_it : (a : ClientAt) (from : Party) (m : Option Message) → Becomes a (read_input from m) (Some (hears_read a from m))
reads_it a from None = stays a
reads_it a from (Some m) = refl

hears_it : (a : ClientAt) (s : Sent) (b : Bool)
    → Becomes a (if b then None else read_input s.from (message_in (node_of s.from) s.bytes))
    (Some (if b then a else hears_read a s.from (message_in (node_of s.from) s.bytes)))
hears_it a s true = stays a
hears_it a s false = reads_it a s.from (message_in (node_of s.from) s.bytes)

sent_it : (c : ℕ) (a : ClientAt) (o : Option Sent) → Becomes a (sent_input c a o) (hears_sent c (Some a) o)
sent_it c a None = stays a
sent_it c a (Some s) = by_test (is_client c s.to)
  where
    by_test : (b : Bool)
        → Becomes a (if b then (if a.stopped then None else read_input s.from (message_in (node_of s.from) s.bytes)) else None)
        (if b then option_map (hears s) (Some a) else Some a)
    by_test true = hears_it a s a.stopped
    by_test false = stays a

comes_it : (k c : ℕ) (a b : ClientAt) → IsNew b
    → Becomes a None (if k == c then Some b else Some a)
comes_it k c a b new = by_test (k == c)
  where
    by_test : (t : Bool) → Becomes a None (if t then Some b else Some a)
    by_test true = (b, refl, inr new)
    by_test false = stays a

stops_it : (k c : ℕ) (a b : ClientAt) (f : ClientAt → ClientAt) → f a ≡ b → b.state ≡ a.state
    → Becomes a None (where_it_is k c f (Some a))
stops_it k c a b f is same = by_test (k == c)
  where
    by_test : (t : Bool) → Becomes a None (if t then option_map f (Some a) else Some a)
    by_test true = (b, ap (λ (x : ClientAt). Some x) is, inl same)
    by_test false = stays a

event_becomes : (c : ℕ) (a : ClientAt) (e : Event) → Becomes a (event_input c a e) (client_after_event c (Some a) e)
event_becomes c a (event.Client k) = comes_it k c a _ (k, refl)
event_becomes c a (event.Do k x) = only k c a (called (op_of x)) _ (calls_it a (op_of x) (calls a.state (op_of x)) refl)
event_becomes c a (event.Call k x) = only k c a (called (op_of x)) _ (calls_it a (op_of x) (calls a.state (op_of x)) refl)
event_becomes c a (event.Resend (sender.Client k)) = only k c a (goes Resends) (Some Resends) refl
event_becomes c a (event.Leave k) = only k c a left _ (leaves_it a (is_some a.state.call))
event_becomes c a (event.Stop k) = stops_it k c a _ halted refl refl
event_becomes c a (event.Resend sender.Server) = stays a
event_becomes c a e = stays a

pub line_becomes : (c : ℕ) (sent : List Sent) (a : ClientAt) (l : Line)
    → Becomes a (line_input c sent l a) (client_after_line c (record { sent = sent; client = Some a }) l)
line_becomes c sent a (line.Event e) = event_becomes c a e
line_becomes c sent a (line.Delivered number delivery) = sent_it c a (slice_get sent number)
line_becomes c sent a (line.TimedOut k component) = only k c a (goes (TimesOut component)) (Some (TimesOut component)) refl
line_becomes c sent a l = stays a

-- ---- a client that isn't there

-- it comes, and has met nothing, or stays away
abbrev pub Arrives : Option ClientAt → Type 0
Arrives o = (b : ClientAt) → o ≡ Some b → IsNew b

away : Arrives None
away b e = absurd (cc e)

none_where : (k c : ℕ) (f : ClientAt → ClientAt) → Arrives (where_it_is k c f None)
none_where k c f = by_test (k == c)
  where
    by_test : (t : Bool) → Arrives (if t then option_map f None else None)
    by_test true = away
    by_test false = away

none_hears : (c : ℕ) (o : Option Sent) → Arrives (hears_sent c None o)
none_hears c None = away
none_hears c (Some s) = by_test (is_client c s.to)
  where
    by_test : (t : Bool) → Arrives (if t then option_map (hears s) None else None)
    by_test true = away
    by_test false = away

none_comes : (k c : ℕ) (b : ClientAt) → IsNew b → Arrives (if k == c then Some b else None)
none_comes k c b new = by_test (k == c)
  where
    same : (x y : ClientAt) → Some x ≡ Some y → x ≡ y
    same x y e = cc e

    by_test : (t : Bool) → Arrives (if t then Some b else None)
    by_test true = λ x e. subst IsNew (same b x e) new
    by_test false = away

event_arrives : (c : ℕ) (e : Event) → Arrives (client_after_event c None e)
event_arrives c (event.Client k) = none_comes k c _ (k, refl)
event_arrives c (event.Do k x) = none_where k c (called (op_of x))
event_arrives c (event.Call k x) = none_where k c (called (op_of x))
event_arrives c (event.Resend (sender.Client k)) = none_where k c (goes Resends)
event_arrives c (event.Leave k) = none_where k c left
event_arrives c (event.Stop k) = none_where k c halted
event_arrives c (event.Resend sender.Server) = away
event_arrives c e = away

pub line_arrives : (c : ℕ) (sent : List Sent) (l : Line) → Arrives (client_after_line c (record { sent = sent; client = None }) l)
line_arrives c sent (line.Event e) = event_arrives c e
line_arrives c sent (line.Delivered number delivery) = none_hears c (slice_get sent number)
line_arrives c sent (line.TimedOut k component) = none_where k c (goes (TimesOut component))
line_arrives c sent l = away

-- ---- all lines

-- how the last step ended its call follows from what that met
pub record IsEnd (t : LastStep) (o : Outcome) : Type 0 where
  pub op : CallOp
  pub call : t.call ≡ Some op
  pub cause : failure_in (grant_under t.held op t.met) op t.met ≡ failure_of o
  pub whole : WritesAll op o

-- and what the pending call has met is what its state says
record IsRight (s : CallSeen) : Type 0 where
  traced : (a : ClientAt) → s.seen.client ≡ Some a → IsTraced a.state s.last.met
  ends : (o : Outcome) → s.last.outcome ≡ Some o → IsEnd s.last o

same_client : (a b : ClientAt) → Some a ≡ Some b → a ≡ b
same_client a b e = cc e

module _ (c : ℕ) (sent : List Sent) (t : LastStep) (ends : (o : Outcome) → t.outcome ≡ Some o → IsEnd t o) (l : Line) where
  by_input : (a : ClientAt) → IsTraced a.state t.met → (i : Option Input) → (o : Option ClientAt) → Becomes a i o
      → IsRight (record { seen = record { sent = []; client = o }; last = after_input a.state t i })
  by_input a x None o b = record {
    traced = λ d e. elim b.2 [
      | inl same ↦ subst (λ (y : ClientAt). IsTraced y.state t.met) (same_client b.0 d (sym b.1 ∙ e))
          (subst (λ (z : _). IsTraced z t.met) (sym same) x)
      | inr new ↦ subst (λ (y : ClientAt). IsTraced y.state t.met) (same_client b.0 d (sym b.1 ∙ e))
          (traced_at_first b.0 t.met new)
    ];
    ends = ends;
  }
  by_input a x (Some i) o b =
      let g = step_good a.state t.met i x in
      record {
        traced = λ d e. subst (λ (y : ClientAt). IsTraced y.state (met_after a.state t.met i))
            (same_client (went a i (step a.state i)) d (sym b ∙ e)) g.client;
        ends = λ u e. told u e g.outcome;
      }
    where
      told : (u : Outcome) → (step a.state i).outcome ≡ Some u
          → Told a.state.held (call_in a.state i) (met_after a.state t.met i) (step a.state i).outcome
          → IsEnd (stepped a.state t i) u
      told u e x =
          let y = subst (Told a.state.held (call_in a.state i) (met_after a.state t.met i)) e x in
          record { op = y.0; call = y.1; cause = y.2.cause; whole = y.2.whole }

  on_line : (o : Option ClientAt) → ((a : ClientAt) → o ≡ Some a → IsTraced a.state t.met)
      → IsRight (sees_call c (record { seen = record { sent = sent; client = o }; last = t }) l)
  on_line None x = record { traced = λ d e. traced_at_first d t.met (line_arrives c sent l d e); ends = ends }
  on_line (Some a) x =
      let r = by_input a (x a refl) (line_input c sent l a) _ (line_becomes c sent a l) in
      record { traced = r.traced; ends = r.ends }

all_right : (c : ℕ) (s : CallSeen) (h : List Line) → IsRight s → IsRight (fold (sees_call c) s h)
all_right c s [] x = x
all_right c s (l ∷ h) x =
    all_right c (sees_call c s l) h (on_line c s.seen.sent s.last x.ends l s.seen.client x.traced)

pub ended_by_met : (c : ℕ) (h : List Line) (o : Outcome) → (call_seen c h).last.outcome ≡ Some o
    → IsEnd (call_seen c h).last o
ended_by_met c h o e =
    (all_right c _ h (record { traced = λ a e. absurd (cc e); ends = λ u e. absurd (cc e) })).ends o e
