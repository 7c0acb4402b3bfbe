-- At each moment a pending call that awaits nothing of a drive waits for an answer of the server.
use Rattle.std.proofs.Common.{◌≡◌, ℕ, true, List, [], ◌∷◌, Option, Some, None, refl, sym, ap, subst, ◌∙◌, inl, inr}
use Rattle.std.proofs.lemmas.Bool.{cases_eq}
use Rattle.osd_lists.proofs.Options.{same_some}
use Rattle.osd_objects.proofs.Entries.{lookup_inserted, lookup_beside}
use Rattle.client_rules.specs.Calls.{file_of}
use Rattle.client_rules.specs.Grants.{held_of}
use Rattle.client_rules.specs.Laws.{Awaiting, Rests, IsResting, EachRestAwaitsSomething}
use Rattle.client_rules.specs.Messages.{awaited_of}
use Rattle.scenario_text.specs.declared.line.Line.{Line}
use Rattle.world_history.specs.ClientNames.{Client, Call, CallOp, Awaited, Held, Request, First, Get, Commit, Report, Close, Phase, Starts, Needs, Waits, Reads, Probes, Gathers, Scatters}
use Rattle.world_history.specs.State.{World, ClientAt, at_number, with_number, and_number}
use Rattle.history_law.specs.Moments.{IsReached, IsMoment}
use Rattle.history_law.proofs.Reached.{always_by}
use Rattle.exchange_law.specs.Calls.{Knows, PhaseFine, CallFine}
use Rattle.exchange_law.specs.InStep.{state_of}
use Rattle.exchange_law.specs.Meeting.{KeptGood, IsReadableThrough, ClientsAgree}
use Rattle.exchange_law.proofs.Each.{put_same, put_other}
use Rattle.cause_law.specs.Waiting.{PendingCallsWait}
use Rattle.cause_law.proofs.CallHistories.{clients_at}
use Rattle.cause_law.proofs.Awaiting.{Has, PhaseAwaits, Awaits, step_awaits}

-- ---- at each moment

abbrev Both : Client → Type 0
Both c = Awaits c × IsResting c

abbrev pub AllAwait : World → Type 0
AllAwait w = (c : ℕ) (a : ClientAt) → at_number w.clients c ≡ Some a → Both a.state

put_awaits : (xs : List (ℕ × ClientAt)) (c : ℕ) (a b : ClientAt) → at_number xs c ≡ Some a → Both b.state
    → ((d : ℕ) (x : ClientAt) → at_number xs d ≡ Some x → Both x.state)
    → (d : ℕ) (x : ClientAt) → at_number (with_number xs c b) d ≡ Some x → Both x.state
put_awaits xs c a b found own all d x e = elim (cases_eq d c) [
  | inl it ↦
      let same : b ≡ x =
      same_some b x (at_number (with_number xs c b) d) (ap (at_number (with_number xs c b)) it ∙ put_same xs c a b found) e in
      subst (λ (y : ClientAt). Both y.state) same own
  | inr other ↦ all d x (sym (put_other xs c d b other) ∙ e)
]

come_awaits : (xs : List (ℕ × ClientAt)) (c : ℕ) (b : ClientAt) → Both b.state
    → ((d : ℕ) (x : ClientAt) → at_number xs d ≡ Some x → Both x.state)
    → (d : ℕ) (x : ClientAt) → at_number (and_number xs c b) d ≡ Some x → Both x.state
come_awaits xs c b own all d x e = elim (cases_eq d c) [
  | inl it ↦
      let same : b ≡ x =
      same_some b x (at_number (and_number xs c b) d) (ap (at_number (and_number xs c b)) it ∙ lookup_inserted xs c b) e in
      subst (λ (y : ClientAt). Both y.state) same own
  | inr other ↦ all d x (sym (lookup_beside xs c d b other) ∙ e)
]

pub all_await : EachRestAwaitsSomething → (w : World) → IsReached w → AllAwait w
all_await rest w r = always_by AllAwait (record {
  starts = λ c a e. absurd (cc e);
  cases = λ v m all. record {
    rests = λ ms same told quiet. all;
    refused = λ c a found op handed e is. all;
    clock = λ time. all;
    serves = λ ms same i is. all;
    goes = λ ms same c a found i is.
        put_awaits v.clients c a _ found (step_awaits a.state i (all c a found).0, rest.steps a.state i (all c a found).1) all;
    comes = λ c is. come_awaits v.clients c _ (tt, tt) all;
    stops = λ c a found. put_awaits v.clients c a (record a { stopped = true }) found (all c a found) all;
    judged = λ ms same d a found hears is number. all;
    injected = λ d bytes is a found. all;
    turns = λ d a b found t. all;
    known = λ d key capacity stored is knows. all;
    adds = λ d key capacity stored is knows. all;
  };
}) w r

-- ---- what it waits for

abbrev IsOut : Option Request → Type 0
IsOut o = (r : Request) × (o ≡ Some r)

has_out : (o : Option Request) → Has o → IsOut o
has_out None h = absurd h
has_out (Some r) h = (r, refl)

nothing_awaited : (xs : List Awaited) → Awaiting xs → xs ≡ [] → ⊥
nothing_awaited [] a e = a
nothing_awaited (x ∷ xs) a e = cc e

by_phase : (K : Knows) (held : Option Held) (o : Option Request) (op : CallOp) (p : Phase) → PhaseAwaits o p → Rests p
    → awaited_of (Some (record { op = op; phase = p })) ≡ [] → PhaseFine K held o op p → IsOut o
by_phase K held o op Starts k r none fine = has_out o k
by_phase K held o op (Needs n) k r none fine = has_out o k
by_phase K held o op (Waits First) k r none fine = has_out o k
by_phase K held o op (Waits (Get tries)) k r none fine = has_out o k
by_phase K held o op (Waits (Commit timed)) k r none fine = (fine.asks.request, fine.asks.outstanding)
by_phase K held o op (Waits (Report timed)) k r none fine = has_out o k
by_phase K held o op (Waits (Close x report)) k r none fine = has_out o k
by_phase K held o op (Reads io) k r none fine = absurd (nothing_awaited io.awaited r none)
by_phase K held o op (Probes io) k r none fine = absurd (nothing_awaited io.awaited r none)
by_phase K held o op (Gathers io) k r none fine = absurd (nothing_awaited io.awaited r none)
by_phase K held o op (Scatters io queue) k r none fine = absurd (nothing_awaited io.awaited r none)

by_call : (K : Knows) (x : Client) (call : Call) → x.call ≡ Some call → Both x → awaited_of x.call ≡ []
    → CallFine K x.held x.outstanding x.call → IsOut x.outstanding
by_call K x call is both none fine =
    by_phase K (held_of x.held (file_of call.op)) x.outstanding call.op call.phase
    (subst (λ (o : Option Call). Awaits (record x { call = o })) is both.0)
    (subst (λ (o : Option Call). IsResting (record x { call = o })) is both.1)
    (ap awaited_of (sym is) ∙ none) (subst (CallFine K x.held x.outstanding) is fine).1

pub waits_for_server : EachRestAwaitsSomething → ClientsAgree → (w : World) (h : List Line) → IsMoment w h
    → IsReadableThrough h → (c : ℕ) (a : ClientAt) (call : Call) → at_number w.clients c ≡ Some a
    → a.state.call ≡ Some call → awaited_of a.state.call ≡ [] → (r : Request) × (a.state.outstanding ≡ Some r)
waits_for_server rest agree w h k readable c a call found is none =
    let reached : IsReached w =
    record { before = k.before; history = k.history; stands = k.stands; moves = k.moves; world_is = k.world_is } in
    let met = agree w h k readable c in
    by_call (KeptGood w.server c) a.state call is (all_await rest w reached c a found) none
    (subst (λ (x : Client). CallFine (KeptGood w.server c) x.held x.outstanding x.call) (ap (state_of c) found) met.call)

pub pending_calls_wait : EachRestAwaitsSomething → ClientsAgree → PendingCallsWait
pending_calls_wait rest agree w h k readable c p none =
    let it =
    waits_for_server rest agree w h k readable c p.caller p.call (sym (clients_at w h k c) ∙ p.there) p.pending none in
    record { request = it.0; outstanding = it.1 }
