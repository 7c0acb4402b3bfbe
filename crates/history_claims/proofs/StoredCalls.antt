-- What a call has stored between the steps of its client; and a report that is taken ends a write that has stored its bytes.
use Rattle.std.proofs.Common.{◌≡◌, ◌⊎◌, nat_lt, ℕ, true, List, [], ◌∷◌, map, Option, Some, None, refl, sym, ap, subst, ◌∙◌, inl, inr}
use Rattle.std.proofs.lemmas.Bool.{cases_Bool}
use Rattle.server_rules.specs.Laws.{In}
use Rattle.client_rules.specs.Answers.{is_loss_taken}
use Rattle.client_rules.specs.Calls.{file_of, is_write}
use Rattle.client_rules.specs.Grants.{held_of}
use Rattle.client_rules.specs.Requests.{object_of, error_at, report_of, return_args}
use Rattle.gather_law.specs.Ready.{IsSome}
use Rattle.layout_types.specs.declared.objid.ObjId.{ObjId}
use Rattle.world_history.specs.ClientNames.{Call, CallOp, Held, TimedOut, Request, Answer, IoErr, Need, First, Get, Commit, Report, Close, Phase, Starts, Needs, Waits, Reads, Probes, Gathers, Scatters}
use Rattle.cause_law.specs.Met as met
use Rattle.cause_law.specs.Met.{Met, Answered, Replied, rising_with, timed_in}
use Rattle.cause_law.proofs.Trace.{comps}
use Rattle.history_claims.specs.Stored.{HasStored}
use Rattle.history_claims.proofs.StoredParts.{AreAlike, Gathering, Scattering, Scattered, IsMore, more_answered, gathering_more, scattering_again, scattering_more, are_stored}
use Rattle.history_claims.proofs.StoredDealings.{Reporting, IsQuiet, Last}

-- ---- a call between steps

-- a grant on its file is held, and this is so of it
abbrev pub HasGrant : List Held → CallOp → (Held → Type 0) → Type 0
HasGrant hs op P = (h : Held) × (held_of hs (file_of op) ≡ Some h) × P h

-- the outstanding request returns the grant with a report of these
abbrev pub AsksReport : CallOp → Held → List TimedOut → Option Request → Type 0
AsksReport op h timed None = ⊥
AsksReport op h timed (Some r) = (r.file ≡ file_of op) × (r.args ≡ return_args h.number (report_of h timed))

abbrev pub NeedStored : List Held → CallOp → List Met → Need → Type 0
NeedStored hs op ms First = IsQuiet ms
NeedStored hs op ms (Get tries) = IsQuiet ms
NeedStored hs op ms (Commit timed) = HasGrant hs op (λ h. Scattered op h ms timed)
NeedStored hs op ms (Report timed) = HasGrant hs op (λ h. Reporting op h ms timed)
NeedStored hs op ms (Close outcome report) = Unit {0}

abbrev pub WaitStored : List Held → Option Request → CallOp → List Met → Need → Type 0
WaitStored hs out op ms First = IsQuiet ms
WaitStored hs out op ms (Get tries) = IsQuiet ms
WaitStored hs out op ms (Commit timed) = HasGrant hs op (λ h. Scattered op h ms timed)
WaitStored hs out op ms (Report timed) = (h : Held) × Reporting op h ms timed × AsksReport op h timed out
WaitStored hs out op ms (Close outcome report) = Unit {0}

abbrev pub PhaseStored : List Held → Option Request → CallOp → List Met → Phase → Type 0
PhaseStored hs out op ms Starts = IsQuiet ms
PhaseStored hs out op ms (Needs need) = NeedStored hs op ms need
PhaseStored hs out op ms (Waits need) = WaitStored hs out op ms need
PhaseStored hs out op ms (Reads io) = Unit {0}
PhaseStored hs out op ms (Probes io) = Unit {0}
PhaseStored hs out op ms (Gathers io) = HasGrant hs op (λ h. Gathering op h ms io.got io.timed)
PhaseStored hs out op ms (Scatters io queue) = HasGrant hs op (λ h. Scattering op h ms io.timed io.awaited queue)

abbrev pub CallStored : List Held → Option Request → List Met → Option Call → Type 0
CallStored hs out ms None = Unit {0}
CallStored hs out ms (Some call) = PhaseStored hs out call.op ms call.phase

-- ---- more is met, and the call stays as it is

module _ (hs : List Held) (op : CallOp) (ms later : List Met) (m : IsMore ms later) where
  reporting_more : (h : Held) (timed : List TimedOut) → Reporting op h ms timed → Reporting op h later timed
  reporting_more h timed x = record {
    checked = x.checked;
    scattered = scattering_more op h ms later timed [] [] m x.scattered;
    component = x.component;
    there = x.there;
  }

  pub quiet_more : IsQuiet ms → IsQuiet later
  quiet_more x = (m.silent ∙ x.0, m.read ∙ x.1, m.none x.2)

  need_more : (n : Need) → NeedStored hs op ms n → NeedStored hs op later n
  need_more First x = quiet_more x
  need_more (Get tries) x = quiet_more x
  need_more (Commit timed) x = (x.0, x.1, scattering_more op x.0 ms later timed [] [] m x.2)
  need_more (Report timed) x = (x.0, x.1, reporting_more x.0 timed x.2)
  need_more (Close o report) x = tt

  wait_more : (out : Option Request) (n : Need) → WaitStored hs out op ms n → WaitStored hs out op later n
  wait_more out First x = quiet_more x
  wait_more out (Get tries) x = quiet_more x
  wait_more out (Commit timed) x = (x.0, x.1, scattering_more op x.0 ms later timed [] [] m x.2)
  wait_more out (Report timed) x = (x.0, reporting_more x.0 timed x.1, x.2)
  wait_more out (Close o report) x = tt

  phase_more : (out : Option Request) (p : Phase) → PhaseStored hs out op ms p → PhaseStored hs out op later p
  phase_more out Starts x = quiet_more x
  phase_more out (Needs n) x = need_more n x
  phase_more out (Waits n) x = wait_more out n x
  phase_more out (Reads io) x = tt
  phase_more out (Probes io) x = tt
  phase_more out (Gathers io) x = (x.0, x.1, gathering_more op x.0 ms later io.got io.timed m x.2)
  phase_more out (Scatters io queue) x = (x.0, x.1, scattering_more op x.0 ms later io.timed io.awaited queue m x.2)

pub call_more : (hs : List Held) (out : Option Request) (ms later : List Met) → IsMore ms later → (o : Option Call) →
    CallStored hs out ms o → CallStored hs out later o
call_more hs out ms later m None x = tt
call_more hs out ms later m (Some call) x = phase_more hs call.op ms later m out call.phase x

-- ---- a report that was taken

from_rising : (k j : ℕ) (js : List ℕ) → In j (rising_with k js) → (j ≡ k) ⊎ In j js
unfolding rising_with
from_rising k j [] i = i
from_rising k j (x ∷ js) i = elim (cases_Bool (nat_lt k x)) [
  | inl t ↦ rw t at i
  | inr f ↦ elim (rw f at i) [
    | inl same ↦ inr (inl same)
    | inr later ↦ elim (from_rising k j js later) [ inl e ↦ inl e | inr old ↦ inr (inr old) ]
  ]
]

-- a component that timed out did so under the grant
timeout_there : (h : Held) (k : ℕ) (ms : List Met) → AreAlike h ms → In k (timed_in ms) →
    (n s : ℕ) × In (met.TimedOut (record h { count = n; size = s }) k) ms
unfolding timed_in
timeout_there h k [] x i = absurd i
timeout_there h k (Answered r a ∷ ms) x i = let t = timeout_there h k ms x i in (t.0, t.1, inr t.2)
timeout_there h k (Replied a r ∷ ms) x i = let t = timeout_there h k ms x i in (t.0, t.1, inr t.2)
timeout_there h k (met.TimedOut g j ∷ ms) x i = elim (from_rising j k (timed_in ms) i) [
  | inl same ↦ (
    x.0.0,
    x.0.1,
    inl (ap (λ (c : ℕ). met.TimedOut (record h { count = x.0.0; size = x.0.1 }) c) same
        ∙ ap (λ (y : Held). met.TimedOut y j) (sym x.0.2)),
  )
  | inr old ↦ let t = timeout_there h k ms x.1 old in (t.0, t.1, inr t.2)
]

-- the report names the objects of just these
reported_objects : (h : Held) (n s : ℕ) (timed : List TimedOut) →
    map (λ (e : IoErr). e.oer_component) (report_of h timed) ≡ map (object_of (record h { count = n; size = s })) (comps timed)
unfolding report_of error_at object_of
reported_objects h n s [] = refl
reported_objects h n s (t ∷ ts) = ap (λ (xs : List ObjId). object_of h t.ask.component ∷ xs) (reported_objects h n s ts)

pub report_ends : (before : List Held) (mine : Option CallOp) (op : CallOp) (h : Held) (ms : List Met) (timed : List TimedOut)
    (r : Request) (a : Answer) → mine ≡ Some op → (is_write op ≡ true → IsSome op) → Reporting op h ms timed →
    AsksReport op h timed (Some r) → is_loss_taken a ≡ true → HasStored (Last before mine (Answered r a ∷ ms))
unfolding timed_in
report_ends before mine op h ms timed r a is some x asks took =
    let silent = x.scattered.under.silent in
    let t = timeout_there h x.component ms x.scattered.under.alike (subst (In x.component) (sym silent) x.there) in
    record {
      op = op;
      call = is;
      write = x.scattered.under.write;
      held = record h { count = t.0; size = t.1 };
      under = inr (x.component, inr t.2);
      checked = x.checked;
      stored = are_stored op (record h { count = t.0; size = t.1 }) (Answered r a ∷ ms) timed x.checked
          (some x.scattered.under.write)
          (scattering_again op h t.0 t.1 (Answered r a ∷ ms) timed [] []
          (scattering_more op h ms (Answered r a ∷ ms) timed [] [] (more_answered r a ms) x.scattered));
      reported = inr (
        record {
          file = asks.0;
          errors = report_of h timed;
          args = asks.1;
          are = reported_objects h t.0 t.1 timed
              ∙ ap (map (object_of (record h { count = t.0; size = t.1 }))) (sym silent);
        },
        took,
      );
    }
