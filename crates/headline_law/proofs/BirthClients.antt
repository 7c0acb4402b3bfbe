-- The clients of a file that was just made: what the machine has of them is so.
-- Towards `EachFileIsCreated` (`file_simulation/specs/Simulation.antt`).
use Rattle.std.proofs.Common.{◌≡◌, ◌⊎◌, ◌<◌, ◌+◌, ◌-◌, ◌*◌, ℕ, Bool, false, List, Option, Some, None, refl, sym, ap, subst, ◌∙◌, arith, inl, inr, if◌then◌else◌}
use Rattle.std.proofs.lemmas.Bool.{cases_eq, eq-eqb, ne_eqb}
use Rattle.data_map.specs.declared.check.RawMap.{RawMap}
use Rattle.layout_ops.specs.declared.args.Args.{Args}
use Rattle.layout_ops.specs.declared.args.Args.TheVariants as args
use Rattle.layout_ops.specs.declared.messages.Answer.{Answer}
use Rattle.scenario_text.specs.declared.line.Line.{Line}
use Rattle.server_rules.specs.Laws.{last_of}
use Rattle.server_rules.specs.Slots.{slot_of}
use Rattle.client_rules.specs.declared.limits.TheConstants.{NONCES}
use Rattle.client_rules.specs.Calls.{file_of}
use Rattle.client_rules.specs.Grants.{held_of}
use Rattle.world_history.specs.ClientNames.{Client, Call, CallOp, Held, Request, TimedOut, First, Get, Commit, Report, Close, Phase, Starts, Needs, Waits, Reads, Probes, Gathers, Scatters}
use Rattle.world_history.specs.ServerNames.{Server, Slot}
use Rattle.exchange_law.specs.Calls.{Knows, CallFine, PhaseFine}
use Rattle.exchange_law.specs.InStep.{IsAwaiting, IsServed, StandsAt}
use Rattle.exchange_law.specs.Messages.{last_before}
use Rattle.fence_law.specs.State.{State, Layout, Grant, RequestKind, Answer as Kept, Request as Asked}
use Rattle.fence_law.specs.State.RequestKind.{Get as ToGet}
use Rattle.fence_law.specs.Words.{In}
use Rattle.file_simulation.specs.Calls.{CallAt, CallIs, HeldIs, IsClient, IsIdle, reports_on, waits_report}
use Rattle.file_simulation.specs.Creation.{answered}
use Rattle.file_simulation.specs.Requests.{RequestClass, Own, AnswerIs, ClassIs, RequestIs, RequestsAgree, class_by, class_of, kept_by, kept_for, phase_of}
use Rattle.relation_law.specs.Requests.{IsReturning}
use Rattle.relation_law.specs.RequestsClients.{AsksFor, HasAsked as HasAskedFor}
use Rattle.relation_law.proofs.BirthsClients.{IsOfNew, IsAsking, IsElsewhere, IsFree, StandsSo, is_told}
use Rattle.relation_law.proofs.BirthsMachine.{HasAsked, IsReady, IsYoung}
use Rattle.headline_law.proofs.BirthAnswers.{GivesNothing}
use Rattle.headline_law.proofs.BirthMachine.{class_for}

-- ---- requests

-- how far the server is, by the answer that it keeps
last_is : (h : List Line) (c : ℕ) (t : Option Slot) (last : ℕ) (r : Request) → IsAwaiting h c t last r →
    last_of t ≡ (if is_told (kept_by t r) then r.sequence - 1 + 1 else r.sequence - 1)
last_is h c None last r a = by a.served
  where
    by : (0 + 1 ≡ r.sequence) ⊎ IsServed h c None r → 0 ≡ r.sequence - 1
    by (inl next) = omega (arith, next)
    by (inr it) = absurd (cc it.kept)
last_is h c (Some s) last r a = elim (cases_eq s.last r.sequence) [
  | inl same ↦
      let first = a.first in
      rw (eq-eqb s.last r.sequence same) (omega (arith, same, first))
  | inr other ↦ rw (ne_eqb s.last r.sequence other) (by other a.served)
]
  where
    by : (s.last ≡ r.sequence → ⊥) → (s.last + 1 ≡ r.sequence) ⊎ IsServed h c (Some s) r → s.last ≡ r.sequence - 1
    by other (inl next) = omega (arith, next)
    by other (inr it) =
        let same : s ≡ it.slot = cc it.kept in
        absurd (other (ap (λ (z : Slot). z.last) same ∙ it.last))

-- what stands with no request
abbrev FreeIn : (c n : ℕ) → State → Option RequestClass → Type 0
FreeIn c n s None = IsReady c n s
FreeIn c n s (Some k) = Unit {0}

free_in : (c n : ℕ) (s : State) (o : Option RequestClass) (b : Bool) → StandsSo c n s o b → FreeIn c n s o
free_in c n s o b (IsFree r x) = r
free_in c n s o b (IsAsking rw x a) = tt
free_in c n s o b (IsElsewhere x a) = tt

-- and the numbers with one
abbrev NumbersIn : (c n : ℕ) → State → Option RequestClass → Bool → Type 0
NumbersIn c n s None b = Unit {0}
NumbersIn c n s (Some k) b = (s.sequence c ≡ n + 1) × (s.slot c ≡ (if b then n + 1 else n))

numbers_in : (c n : ℕ) (s : State) (o : Option RequestClass) (b : Bool) → StandsSo c n s o b → NumbersIn c n s o b
numbers_in c n s o b (IsFree r x) = tt
numbers_in c n s o b (IsAsking rw x a) = (a.sequence, a.slot)
numbers_in c n s o b (IsElsewhere x a) = (a.sequence, a.slot)

-- a request that the machine has as its own is on the file
own_file : (file : ℕ) (x : Client) (r : Request) (k : RequestKind) → class_of file x r ≡ Own k → r.file ≡ file
unfolding class_of
own_file file x r k e = elim (cases_eq r.file file) [
  | inl same ↦ same
  | inr other ↦ absurd (cc (rw (ne_eqb r.file file other) at e))
]

-- none returns a grant on it
pub is_new : (file : ℕ) (x : Client) (o : Option Request) →
    ((r : Request) → o ≡ Some r → IsReturning r.args → r.file ≡ file → ⊥) → IsOfNew (class_for file x o)
unfolding class_of
is_new file x None none = tt
is_new file x (Some r) none = elim (cases_eq r.file file) [
  | inl same ↦ rw (eq-eqb r.file file same) (by r.args refl (none r refl) same)
  | inr other ↦ rw (ne_eqb r.file file other) tt
]
  where
    by : (a : Args) → r.args ≡ a → (IsReturning r.args → r.file ≡ file → ⊥) → r.file ≡ file →
        IsOfNew (Some (class_by (phase_of x.call) r.args))
    by (args.LayoutGet a) is gone same = rw is tt
    by (args.LayoutCommit a) is gone same = rw is tt
    by (args.LayoutReturn a) is gone same = absurd (gone (rw is tt) same)

module _ (file : ℕ) (map : RawMap) (s : State) (server : Server) (c : ℕ) (x : Client) (h : List Line) where
  abbrev t : Option Slot
  t = slot_of server.slots c

  answer_is : (n : ℕ) (rw_ : Bool) (o : Option Answer) (b : Bool) → b ≡ is_told o → HasAsked c n rw_ b s →
      ((a : Answer) → o ≡ Some a → GivesNothing a) → AnswerIs map s c x o
  answer_is n rw_ None b is a nothing = tt
  answer_is n rw_ (Some y) b is a nothing =
      let gives : GivesNothing y = nothing y refl in
      record {
        grant = None;
        gives = rw gives.0 refl;
        sent =
            subst (λ (z : Kept). In z s.answers)
            (ap (λ (q : ℕ). record { client = c; sequence = q; grant = None; size = 0 }) (sym a.sequence)
            ∙ ap (λ (q : ℕ). record { client = c; sequence = s.sequence c; grant = None; size = q }) (sym gives.1))
            (a.answer is);
      }

  -- by the class of the request
  abbrev ClassIn : Option Answer → Option RequestClass → Type 0
  ClassIn o None = Unit {0}
  ClassIn o (Some k) = ClassIs map s c x o k

  class_in : (n : ℕ) (q : Option RequestClass) (b : Bool) (o : Option Answer) → b ≡ is_told o → StandsSo c n s q b →
      ((kind : RequestKind) → q ≡ Some (Own kind) → (a : Answer) → o ≡ Some a → GivesNothing a) → ClassIn o q
  class_in n q b o is (IsFree r y) nothing = tt
  class_in n q b o is (IsAsking rw_ y a) nothing = record {
    waiting = a.waiting;
    away = a.away;
    asked = a.asked;
    request =
        subst (λ (z : Asked). In z s.requests)
        (ap (λ (i : ℕ). record { client = c; sequence = i; kind = ToGet rw_ }) (sym a.sequence)) a.request;
    answer = answer_is n rw_ o y is a (nothing (ToGet rw_) refl);
  }
  class_in n q b o is (IsElsewhere y a) nothing = record { waiting = a.waiting; away = a.away }

  -- what the machine has of the client's requests
  pub requests : (o : Option Request) → x.outstanding ≡ o → StandsAt h c t (last_before x.next) o →
      ((r : Request) → o ≡ Some r → r.file ≡ file → (a : Answer) → kept_by t r ≡ Some a → GivesNothing a) →
      StandsSo c (answered x o) s (class_for file x o) (is_told (kept_for t o)) → RequestsAgree file map s server c x
  requests None is stands nothing so =
      let ready : IsReady c (last_before x.next) s = free_in c (last_before x.next) s None (is_told (kept_for t None)) so in
      record {
        slot = ready.slot ∙ sym stands;
        sequence = ready.sequence;
        request =
            subst (RequestIs file map s t c x) (sym is)
            (record { waiting = ready.waiting; away = ready.away; served = ready.slot ∙ sym ready.sequence });
      }
  requests (Some r) is stands nothing so =
      let numbers = numbers_in c (r.sequence - 1) s (Some (class_of file x r)) (is_told (kept_by t r)) so in
      let first = stands.first in
      let last : r.sequence ≡ s.sequence c = omega (arith, first, numbers.0) in
      record {
        slot = numbers.1 ∙ sym (last_is h c t (last_before x.next) r stands);
        sequence = sym last ∙ stands.sequence;
        request =
            subst (RequestIs file map s t c x) (sym is)
            (record {
              sequence = last;
              waits =
                  class_in (r.sequence - 1) (Some (class_of file x r)) (is_told (kept_by t r)) (kept_by t r) refl so
                  (λ kind own a kept. nothing r refl (own_file file x r kind (cc own)) a kept);
            });
      }

-- ---- the call, and the grant that is held

module _ (layout : Layout) (file : ℕ) (map : RawMap) (s : State) (c : ℕ) (x : Client) (young : IsYoung layout s)
    (asks : AsksFor x) (none : held_of x.held file ≡ None) (K : Knows) (fine : CallFine K x.held x.outstanding x.call)
    (gone : (r : Request) → x.outstanding ≡ Some r → IsReturning r.args → r.file ≡ file → ⊥) where
  idle : IsIdle s c
  idle = record { at_ = ap (λ (f : ℕ → _). f c) young.call; commit = ap (λ (f : ℕ → _). f c) young.commit }

  -- no call reports a loss of the file
  reports : (op : CallOp) (timed : List TimedOut) → x.call ≡ Some (record { op = op; phase = Waits (Report timed) }) →
      file_of op ≡ file → ⊥
  reports op timed is same =
      let asked : HasAskedFor x op (Report timed) = asks.waits op (Report timed) is in
      let back : IsReturning asked.request.args = subst IsReturning (sym asked.asks.1.1) tt in
      gone asked.request asked.outstanding back (asked.file_is ∙ same)

  waits_none : (op : CallOp) (p : Phase) → x.call ≡ Some (record { op = op; phase = p }) → file_of op ≡ file →
      waits_report p ≡ false
  waits_none op (Waits (Report timed)) is same = absurd (reports op timed is same)
  waits_none op Starts is same = refl
  waits_none op (Needs need) is same = refl
  waits_none op (Waits First) is same = refl
  waits_none op (Waits (Get tries)) is same = refl
  waits_none op (Waits (Commit timed)) is same = refl
  waits_none op (Waits (Close u report)) is same = refl
  waits_none op (Reads io) is same = refl
  waits_none op (Probes io) is same = refl
  waits_none op (Gathers io) is same = refl
  waits_none op (Scatters io queue) is same = refl

  reports_none : (o : Option Call) → x.call ≡ o → reports_on file o ≡ false
  reports_none None is = refl
  reports_none (Some call) is = elim (cases_eq (file_of call.op) file) [
    | inl same ↦ rw (eq-eqb (file_of call.op) file same) (waits_none call.op call.phase is same)
    | inr other ↦ rw (ne_eqb (file_of call.op) file other) refl
  ]

  module _ (o : Option Answer) where
    phase_is : (op : CallOp) (p : Phase) → x.call ≡ Some (record { op = op; phase = p }) → file_of op ≡ file →
        PhaseFine K None x.outstanding op p → CallIs map s c op o p
    phase_is op Starts is same k = idle
    phase_is op (Needs First) is same k = idle
    phase_is op (Needs (Get tries)) is same k = idle
    phase_is op (Needs (Commit timed)) is same k = absurd k.0.0
    phase_is op (Needs (Report timed)) is same k = absurd k.0
    phase_is op (Needs (Close u report)) is same k = absurd k.0.0
    phase_is op (Waits First) is same k = idle
    phase_is op (Waits (Get tries)) is same k = idle
    phase_is op (Waits (Commit timed)) is same k = absurd k.writes
    phase_is op (Waits (Report timed)) is same k = absurd (reports op timed is same)
    phase_is op (Waits (Close u report)) is same k = idle
    phase_is op (Reads io) is same k = absurd k.0
    phase_is op (Probes io) is same k = absurd k.0
    phase_is op (Gathers io) is same k = absurd k.0
    phase_is op (Scatters io queue) is same k = absurd k.0

    call_is : (p : Option Call) → x.call ≡ p → CallFine K x.held x.outstanding p → CallAt file map s c o p
    call_is None is k = idle
    call_is (Some call) is k = elim (cases_eq (file_of call.op) file) [
      | inl same ↦
          rw (eq-eqb (file_of call.op) file same)
          (phase_is call.op call.phase is same
          (subst (λ (z : Option Held). PhaseFine K z x.outstanding call.op call.phase)
          (ap (held_of x.held) same ∙ none) k.1))
      | inr other ↦ rw (ne_eqb (file_of call.op) file other) idle
    ]

    -- what the machine has of the client
    pub client : IsClient file map s c x o
    client = record {
      held =
          subst (HeldIs file map s c x o) (sym none)
          (rw (reports_none x.call refl) (ap (λ (f : ℕ → Option Grant). f c) young.held));
      call = call_is x.call refl fine;
      fresh = λ g size waits i. absurd (cc (young.answers _ i));
      used =
          subst (λ (n : ℕ). n < s.next * NONCES) (sym (ap (λ (f : ℕ → ℕ). f c) young.nonce))
          (subst (λ (k : ℕ). 0 < k * NONCES) (sym young.next) (omega arith));
    }
