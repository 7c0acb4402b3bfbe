-- What the machine has of a client's requests stays, where the machine, the server's slot and the client stay.
use Rattle.std.proofs.Common.{◌≡◌, ◌==◌, ℕ, Bool, true, false, Option, Some, None, refl, sym, ap, subst, ◌∙◌, inl, inr, if◌then◌else◌}
use Rattle.std.proofs.lemmas.Bool.{true≢false}
use Rattle.data_map.specs.declared.check.RawMap.{RawMap}
use Rattle.layout_ops.specs.declared.args.Args.{Args}
use Rattle.layout_ops.specs.declared.args.Args.TheVariants as args
use Rattle.layout_ops.specs.declared.messages.Answer.{Answer}
use Rattle.layout_ops.specs.declared.results.LayoutGetOk.{LayoutGetOk}
use Rattle.server_rules.specs.Slots.{slot_of}
use Rattle.server_rules.specs.Laws.{last_of}
use Rattle.client_rules.specs.Results.{layouts_in}
use Rattle.world_history.specs.ServerNames.{Server, Slot}
use Rattle.world_history.specs.ClientNames.{Client, Call, CallOp, Request, Phase, Starts, Needs, Waits, Reads, Probes, Gathers, Scatters}
use Rattle.world_history.specs.Handed.{pending_op}
use Rattle.exchange_law.specs.Messages.{last_before}
use Rattle.fence_law.specs.State.{State, Grant, RequestKind}
use Rattle.fence_law.specs.State.RequestKind.{Return}
use Rattle.fence_law.specs.Words.{In as InRun}
use Rattle.exchange_law.specs.Calls.{IsNoGet}
use Rattle.file_simulation.specs.Showing.{IsRun}
use Rattle.file_simulation.specs.Requests.{RequestClass, Own, Other, phase_of, return_class, class_by, class_of, kept_by, GivesIn, AnswerIs, IsWaiting, ClassIs, IsOutstanding, RequestIs, RequestsAgree}
use Rattle.relation_law.specs.Requests.{Works, WorksCall, IsAsBefore, HasStayed}
use Rattle.relation_law.proofs.RequestsRuns.{return_gives_none}

-- ---- what a request is stays

works_return : (o : Option Call) → WorksCall o → return_class (phase_of o) ≡ Own (Return true)
works_return None w = refl
works_return (Some call) w = by_phase call.phase w
  where
    by_phase : (p : Phase) → Works p → return_class (Some p) ≡ Own (Return true)
    by_phase (Waits n) w = absurd (true≢false w)
    by_phase Starts w = refl
    by_phase (Needs n) w = refl
    by_phase (Reads io) w = refl
    by_phase (Probes io) w = refl
    by_phase (Gathers io) w = refl
    by_phase (Scatters io queue) w = refl

class_as : (o p : Option Call) → IsAsBefore o p → (a : Args) → class_by (phase_of p) a ≡ class_by (phase_of o) a
class_as o p (inl same) a = ap (λ (c : Option Call). class_by (phase_of c) a) same
class_as o p (inr both) (args.LayoutGet a) = refl
class_as o p (inr both) (args.LayoutCommit a) = refl
class_as o p (inr both) (args.LayoutReturn a) = works_return p both.1 ∙ sym (works_return o both.0)

pub class_stays : (file : ℕ) (x y : Client) (r : Request) → IsAsBefore x.call y.call → class_of file y r ≡ class_of file x r
unfolding class_of
class_stays file x y r before = either (r.file == file)
  where
    either : (b : Bool) → (if b then class_by (phase_of y.call) r.args else Other)
        ≡ (if b then class_by (phase_of x.call) r.args else Other)
    either true = class_as x.call y.call before r.args
    either false = refl

-- ---- an answer stays

gives_stays : (m : RawMap) (a : Answer) (o p : Option CallOp) (l : Option LayoutGetOk) (g : Option Grant)
    → ((ok : LayoutGetOk) → l ≡ Some ok → p ≡ o) → GivesIn m a o l g → GivesIn m a p l g
gives_stays m a o p None g same x = x
gives_stays m a o p (Some ok) g same x = subst (λ (c : Option CallOp). GivesIn m a c (Some ok) g) (sym (same ok refl)) x

module _ (file : ℕ) (m : RawMap) (s t : State) (c : ℕ) (x y : Client) (k : HasStayed c s t) where
  answer_stays : (o : Option Answer)
      → ((a : Answer) → o ≡ Some a → (ok : LayoutGetOk) → layouts_in a.results ≡ Some ok → pending_op y ≡ pending_op x)
      → AnswerIs m s c x o → AnswerIs m t c y o
  answer_stays None same a = tt
  answer_stays (Some b) same a = record {
    grant = a.grant;
    gives = gives_stays m b (pending_op x) (pending_op y) (layouts_in b.results) a.grant (same b refl) a.gives;
    sent = subst (λ (n : ℕ). InRun (record { client = c; sequence = n; grant = a.grant; size = b.size }) t.answers)
        (sym k.sequence) (k.answers _ a.sent);
  }

  waiting_stays : (kind : RequestKind) (o : Option Answer)
      → ((a : Answer) → o ≡ Some a → (ok : LayoutGetOk) → layouts_in a.results ≡ Some ok → pending_op y ≡ pending_op x)
      → IsWaiting m s c x kind o → IsWaiting m t c y kind o
  waiting_stays kind o same w = record {
    waiting = k.waiting ∙ w.waiting;
    away = k.away ∙ w.away;
    asked = k.asked ∙ w.asked;
    request = subst (λ (n : ℕ). InRun (record { client = c; sequence = n; kind = kind }) t.requests) (sym k.sequence)
        (k.requests _ w.request);
    answer = answer_stays o same w.answer;
  }

  class_is_stays : (o : Option Answer) (q : RequestClass)
      → ((kind : RequestKind) → q ≡ Own kind → (a : Answer) → o ≡ Some a → (ok : LayoutGetOk) → layouts_in a.results ≡ Some ok
      → pending_op y ≡ pending_op x)
      → ClassIs m s c x o q → ClassIs m t c y o q
  class_is_stays o (Own kind) same w = waiting_stays kind o (same kind refl) w
  class_is_stays o Other same w = record { waiting = k.waiting ∙ w.waiting; away = k.away ∙ w.away }

  -- the same request is outstanding still
  outstanding_stays : (p : Option Slot) (r : Request) → IsAsBefore x.call y.call
      → ((kind : RequestKind) → class_of file x r ≡ Own kind → (a : Answer) → kept_by p r ≡ Some a → (ok : LayoutGetOk)
      → layouts_in a.results ≡ Some ok → pending_op y ≡ pending_op x)
      → IsOutstanding file m s p c x r → IsOutstanding file m t p c y r
  outstanding_stays p r before same w = record {
    sequence = w.sequence ∙ sym k.sequence;
    waits = subst (ClassIs m t c y (kept_by p r)) (sym (class_stays file x y r before))
        (class_is_stays (kept_by p r) (class_of file x r) same w.waits);
  }

  request_stays : (p : Option Slot) (o : Option Request) → ((r : Request) → o ≡ Some r → IsAsBefore x.call y.call)
      → ((r : Request) → o ≡ Some r → (kind : RequestKind) → class_of file x r ≡ Own kind → (a : Answer)
      → kept_by p r ≡ Some a → (ok : LayoutGetOk) → layouts_in a.results ≡ Some ok → pending_op y ≡ pending_op x)
      → RequestIs file m s p c x o → RequestIs file m t p c y o
  request_stays p None before same w = record {
    waiting = k.waiting ∙ w.waiting;
    away = k.away ∙ w.away;
    served = k.slot ∙ w.served ∙ sym k.sequence;
  }
  request_stays p (Some r) before same w = outstanding_stays p r (before r refl) (same r refl) w

  -- all that the machine has of the client's requests
  pub agree_stays : (server later : Server) → slot_of later.slots c ≡ slot_of server.slots c
      → y.outstanding ≡ x.outstanding → y.next ≡ x.next
      → ((r : Request) → x.outstanding ≡ Some r → IsAsBefore x.call y.call)
      → ((r : Request) → x.outstanding ≡ Some r → (kind : RequestKind) → class_of file x r ≡ Own kind → (a : Answer)
      → kept_by (slot_of server.slots c) r ≡ Some a → (ok : LayoutGetOk) → layouts_in a.results ≡ Some ok
      → pending_op y ≡ pending_op x)
      → RequestsAgree file m s server c x → RequestsAgree file m t later c y
  agree_stays server later slots out next before same w = record {
    slot = k.slot ∙ w.slot ∙ ap last_of (sym slots);
    sequence = k.sequence ∙ w.sequence ∙ ap last_before (sym next);
    request = subst (λ (p : Option Slot). RequestIs file m t p c y y.outstanding) (sym slots)
        (subst (RequestIs file m t (slot_of server.slots c) c y) (sym out)
        (request_stays (slot_of server.slots c) x.outstanding before same w.request));
  }

-- nothing changes of the client
pub agree_same : (file : ℕ) (m : RawMap) (s t : State) (c : ℕ) (x y : Client) → HasStayed c s t → (server later : Server)
    → slot_of later.slots c ≡ slot_of server.slots c → y ≡ x → RequestsAgree file m s server c x
    → RequestsAgree file m t later c y
agree_same file m s t c x y k server later slots same w =
    agree_stays file m s t c x y k server later slots (ap (λ (z : Client). z.outstanding) same) (ap (λ (z : Client). z.next) same)
    (λ r is. inl (ap (λ (z : Client). z.call) same)) (λ r is kind own a kept ok l. ap pending_op same) w

-- ---- a return is answered with no layout

-- its answer gives a grant only to a pending call
given_grant : (m : RawMap) (a : Answer) (o : Option CallOp) (ok : LayoutGetOk) (g : Option Grant) → GivesIn m a o (Some ok) g
    → (x : Grant) × (g ≡ Some x)
given_grant m a None ok g x = absurd x
given_grant m a (Some op) ok g x = (x.0, x.2)

module _ (file : ℕ) (m : RawMap) (s : State) (c : ℕ) (x : Client) (p : Option Slot) (r : Request) (run : IsRun s)
    (w : IsOutstanding file m s p c x r) (works : WorksCall x.call) (no_get : IsNoGet r.args) where
  no_return : (b : Bool) (a : Answer) (o : Option Answer) → o ≡ Some a → IsWaiting m s c x (Return b) o → (ok : LayoutGetOk)
      → layouts_in a.results ≡ Some ok → ⊥
  no_return b a None is k ok l = cc is
  no_return b a (Some d) is k ok l =
      let same : d ≡ a = cc is in
      let gives : GivesIn m d (pending_op x) (Some ok) k.answer.grant =
      subst (λ (z : Option LayoutGetOk). GivesIn m d (pending_op x) z k.answer.grant)
      (ap (λ (z : Answer). layouts_in z.results) same ∙ l) k.answer.gives in
      let g : (y : Grant) × (k.answer.grant ≡ Some y) = given_grant m d (pending_op x) ok k.answer.grant gives in
      return_gives_none s run c b g.0 d.size k.asked
      (subst (λ (z : Option Grant). InRun (record { client = c; sequence = s.sequence c; grant = z; size = d.size }) s.answers)
      g.1 k.answer.sent)

  own_is : (a : Args) → IsNoGet a → (kind : RequestKind) → class_by (phase_of x.call) a ≡ Own kind → Return true ≡ kind
  own_is (args.LayoutGet g) none kind is = absurd none
  own_is (args.LayoutCommit g) none kind is = absurd (cc is)
  own_is (args.LayoutReturn g) none kind is = cc (sym (works_return x.call works) ∙ is)

  -- what the server has answered to a return that was due gives no layout
  pub none_given : (kind : RequestKind) → class_of file x r ≡ Own kind → (a : Answer) → kept_by p r ≡ Some a
      → (ok : LayoutGetOk) → layouts_in a.results ≡ Some ok → ⊥
  unfolding class_of
  none_given kind own a kept ok l = either (r.file == file) refl
    where
      either : (b : Bool) → (r.file == file) ≡ b → ⊥
      either true here =
          let it : Return true ≡ kind =
          own_is r.args no_get kind
          (sym (ap (λ (z : Bool). if z then class_by (phase_of x.call) r.args else Other) here) ∙ own) in
          no_return true a (kept_by p r) kept
          (subst (ClassIs m s c x (kept_by p r)) (own ∙ ap Own (sym it)) w.waits) ok l
      either false there =
          cc (sym (ap (λ (z : Bool). if z then class_by (phase_of x.call) r.args else Other) there) ∙ own)
