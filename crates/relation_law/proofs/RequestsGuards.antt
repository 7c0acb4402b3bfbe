-- When the events of clients' requests can happen: each by what the machine has of the client's request.
use Rattle.std.proofs.Common.{◌≡◌, ◌==◌, ◌+◌, ℕ, Bool, true, false, List, Option, Some, None, refl, sym, ap, subst, ◌∙◌, if◌then◌else◌}
use Rattle.std.proofs.lemmas.Bool.{true≢false, eq-eqb}
use Rattle.data_map.specs.declared.check.RawMap.{RawMap}
use Rattle.layout_ops.specs.declared.statuses.TheConstants.{NFS4_OK}
use Rattle.layout_ops.specs.declared.messages.Answer.{Answer}
use Rattle.layout_ops.specs.declared.results.LayoutGetOk.{LayoutGetOk}
use Rattle.layout_ops.specs.declared.results.LayoutGetResult.TheVariants as get
use Rattle.layout_ops.specs.declared.results.Results.{Results}
use Rattle.layout_ops.specs.declared.results.Results.TheVariants as results
use Rattle.server_rules.specs.Laws.{last_of}
use Rattle.client_rules.specs.Results.{status_of, layouts_in}
use Rattle.world_history.specs.ServerNames.{Slot}
use Rattle.world_history.specs.ClientNames.{Client, CallOp, Request}
use Rattle.world_history.specs.Handed.{pending_op}
use Rattle.fence_law.specs.Words.{In}
use Rattle.fence_law.specs.Columns.{NotClean}
use Rattle.fence_law.specs.State.{State, Grant, RequestKind, Request as MachineRequest}
use Rattle.fence_law.specs.State.{Event as event}
use Rattle.fence_law.specs.State.Call.{Idle, Broken}
use Rattle.fence_law.specs.State.RequestKind.{Return}
use Rattle.fence_law.specs.Machine.{Allowed}
use Rattle.file_simulation.specs.Showing.{IsRun}
use Rattle.file_simulation.specs.Requests.{Own, Other, class_of, kept_by, GivesIn, HasSentAnswer, AnswerIs, IsWaiting, IsAway, ClassIs, AwaitsNothing, IsOutstanding}
use Rattle.file_simulation.specs.ClientEvents.{grant_with}
use Rattle.relation_law.specs.Requests.{AskingStays}
use Rattle.relation_law.proofs.RequestsRuns.{slots_of_run, return_gives_none}

-- ---- a client asks, where it waits for nothing

pub asks_may : (s : State) (c : ℕ) (rw : Bool) → AwaitsNothing s c → s.held c ≡ None → s.call c ≡ Idle
    → Allowed s (event.Asks c rw)
asks_may s c rw rests held call = record { free = rests.waiting; home = rests.away; none = held; idle = call }

pub asks_other_may : (s : State) (c : ℕ) → AwaitsNothing s c → Allowed s (event.AsksOther c)
asks_other_may s c rests = record { free = rests.waiting; home = rests.away }

pub gives_back_may : (s : State) (c : ℕ) (g : Grant) → AwaitsNothing s c → s.held c ≡ Some g → s.call c ≡ Idle
    → Allowed s (event.GivesBack c g)
gives_back_may s c g rests held call = record { free = rests.waiting; home = rests.away; has = held; idle = call }

pub reports_may : (s : State) (c : ℕ) (g : Grant) → AwaitsNothing s c → s.held c ≡ Some g → s.call c ≡ Broken
    → Allowed s (event.Reports c g)
reports_may s c g rests held call = record { free = rests.waiting; home = rests.away; has = held; broken = call }

-- ---- answers that give layouts

-- they are of success
pub layouts_ok : (r : Results) (ok : LayoutGetOk) → layouts_in r ≡ Some ok → status_of r ≡ NFS4_OK
layouts_ok (results.LayoutGet (get.Granted x)) ok is = refl
layouts_ok (results.LayoutGet (get.TryLater signal)) ok is = absurd (cc is)
layouts_ok (results.LayoutGet (get.Refused status)) ok is = absurd (cc is)
layouts_ok (results.LayoutCommit x) ok is = absurd (cc is)
layouts_ok (results.LayoutReturn x) ok is = absurd (cc is)

-- one that isn't gives no grant
refused_none : (m : RawMap) (a : Answer) (op : Option CallOp) (l : Option LayoutGetOk) (g : Option Grant)
    → layouts_in a.results ≡ l → (status_of a.results == NFS4_OK) ≡ false → GivesIn m a op l g → g ≡ None
refused_none m a op None g is no_ gives = gives
refused_none m a op (Some ok) g is no_ gives =
    absurd (true≢false (sym (eq-eqb (status_of a.results) NFS4_OK (layouts_ok a.results ok is)) ∙ no_))

module _ (file : ℕ) (m : RawMap) (s : State) (c : ℕ) (x : Client) (p : Option Slot) (r : Request)
    (slot : s.slot c ≡ last_of p) (w : IsOutstanding file m s p c x r) where
  away_of : class_of file x r ≡ Other → IsAway s c
  away_of is = subst (ClassIs m s c x (kept_by p r)) is w.waits

  waiting_of : (kind : RequestKind) → class_of file x r ≡ Own kind → IsWaiting m s c x kind (kept_by p r)
  waiting_of kind is = subst (ClassIs m s c x (kept_by p r)) is w.waits

  -- ---- a client takes the answer, which the server has given

  module _ (served : last_of p ≡ r.sequence) where
    -- one to another file, to a commit, or to a report that may be taken
    pub takes_other_may : class_of file x r ≡ Other → Allowed s (event.TakesOther c)
    takes_other_may is = record { out = (away_of is).away; served = slot ∙ served ∙ w.sequence }

    module _ (a : Answer) (kept : kept_by p r ≡ Some a) (run : IsRun s) where
      answered : (kind : RequestKind) → class_of file x r ≡ Own kind → HasSentAnswer m s c x a
      answered kind is = subst (AnswerIs m s c x) kept (waiting_of kind is).answer

      grant_is : (kind : RequestKind) → (is : class_of file x r ≡ Own kind) → (answered kind is).grant ≡ s.kept_grant c
      grant_is kind is =
          ((slots_of_run s run).told _ (answered kind is).sent).1 (sym w.sequence ∙ sym served ∙ sym slot)

      -- one to a LAYOUTGET
      pub takes_get_may : (kind : RequestKind) → class_of file x r ≡ Own kind
          → Allowed s (event.Takes c (grant_with s c a) a.size)
      takes_get_may kind is = record {
        waits = (waiting_of kind is).waiting;
        comes = subst (λ (g : Option Grant). In (record { client = c; sequence = s.sequence c; grant = g; size = a.size })
            s.answers) (by_status (status_of a.results == NFS4_OK) refl) (answered kind is).sent;
      }
        where
          by_status : (b : Bool) → (status_of a.results == NFS4_OK) ≡ b
              → (answered kind is).grant ≡ (if b then s.kept_grant c else None)
          by_status true e = grant_is kind is
          by_status false e =
              refused_none m a (pending_op x) (layouts_in a.results) (answered kind is).grant refl e (answered kind is).gives

      -- one to a return
      pub takes_return_may : (b : Bool) → class_of file x r ≡ Own (Return b) → Allowed s (event.Takes c None a.size)
      takes_return_may b is = record {
        waits = (waiting_of (Return b) is).waiting;
        comes = by_grant (answered (Return b) is).grant (answered (Return b) is).sent;
      }
        where
          by_grant : (g : Option Grant) → In (record { client = c; sequence = s.sequence c; grant = g; size = a.size }) s.answers
              → In (record { client = c; sequence = s.sequence c; grant = None; size = a.size }) s.answers
          by_grant None i = i
          by_grant (Some g) i = absurd (return_gives_none s run c b g a.size (waiting_of (Return b) is).asked i)

  -- ---- the server carries it out

  module _ (next : last_of p + 1 ≡ r.sequence) where
    its_turn : s.slot c + 1 ≡ s.sequence c
    its_turn = ap (λ (n : ℕ). n + 1) slot ∙ next ∙ w.sequence

    pub serves_other_may : class_of file x r ≡ Other → Allowed s (event.ServesOther c)
    serves_other_may is = record { free = (away_of is).waiting; out = (away_of is).away; next = its_turn }

    asked_now : (kind : RequestKind) → class_of file x r ≡ Own kind
        → In (record { client = c; sequence = s.slot c + 1; kind = kind }) s.requests
    asked_now kind is =
        subst (λ (n : ℕ). In (record { client = c; sequence = n; kind = kind }) s.requests) (sym its_turn)
        (waiting_of kind is).request

    pub frees_may : class_of file x r ≡ Own (Return true) → Allowed s (event.Frees c)
    frees_may is = asked_now (Return true) is

    -- also behind events of no request, which may come before its answer
    module _ (t : State) (k : AskingStays s t) where
      -- `asks` of Grants
      pub asks_stay : (kind : RequestKind) → class_of file x r ≡ Own kind
          → In (record { client = c; sequence = t.slot c + 1; kind = kind }) t.requests
      asks_stay kind is =
          subst (λ (l : List MachineRequest). In (record { client = c; sequence = t.slot c + 1; kind = kind }) l) (sym k.requests)
          (subst (λ (f : ℕ → ℕ). In (record { client = c; sequence = f c + 1; kind = kind }) s.requests) (sym k.slot)
          (asked_now kind is))

      pub refuses_may : (kind : RequestKind) → class_of file x r ≡ Own kind → NotClean kind
          → Allowed t (event.Refuses c kind)
      refuses_may kind is unclean = record { asks = asks_stay kind is; unclean = unclean }
