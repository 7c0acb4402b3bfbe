-- Whatever comes to a client, what its call has stored stays stored, and a write that is acknowledged has stored its bytes.
use Rattle.std.proofs.Common.{◌≡◌, ◌==◌, ◌+◌, nat_lt, ℕ, Bool, true, false, List, Option, Some, None, Result, Ok, Err, refl, sym, subst, ◌∙◌, if◌then◌else◌}
use Rattle.layout_ops.specs.declared.statuses.TheConstants.{NFS4_OK, NFS4ERR_NOENT, NFS4ERR_LAYOUTTRYLATER, NFS4ERR_LAYOUTUNAVAILABLE, NFS4ERR_RECALLCONFLICT}
use Rattle.client_rules.specs.declared.limits.TheConstants.{MAX_TRIES, NO_COMPONENT}
use Rattle.client_rules.specs.Answers.{busy, unavailable, refused_with, not_granted}
use Rattle.client_rules.specs.Calls.{file_of}
use Rattle.client_rules.specs.Going.{with_held, by_turn, moved, begins, begun, requests, asks_under, returns}
use Rattle.client_rules.specs.Grants.{covers, held_of}
use Rattle.client_rules.specs.Layouts.{taken}
use Rattle.client_rules.specs.Messages.{Step, finished, answered_get, on_get}
use Rattle.client_rules.specs.Requests.{args_of}
use Rattle.client_rules.specs.Results.{status_of}
use Rattle.client_rules.specs.Turns.{needing}
use Rattle.client_rules.proofs.HeldGrants.{held_file, put_at}
use Rattle.history_law.proofs.Turns.{each_begin, each_progress}
use Rattle.world_history.specs.ClientNames.{CallOp, Held, Due, Moved, Request, Answer, Why, Need, First, Get, Commit, Report, Close, Phase, Starts, Needs, Waits, Reads, Probes, Gathers, Scatters, Outcome, WriteOk, ReadOk, NoFile, HeldBy, Fencing, Spent, Degraded, Status, Turn, Goes, Ends, Forgets, Done}
use Rattle.cause_law.specs.Met as met
use Rattle.cause_law.specs.Met.{Met}
use Rattle.relation_law.proofs.MessagesAlways.{Any}
use Rattle.relation_law.proofs.MessagesRun.{FineDone, finishes, call_bytes}
use Rattle.relation_law.proofs.RequestsDealt.{file_of_moved, begins_file}
use Rattle.relation_law.proofs.TurnEnds.{writes_some}
use Rattle.history_claims.proofs.StoredDealings.{Reporting, IsQuiet, NeedUnder, PhaseUnder, IsEnd, TurnStored, MovedStored, begins_stored}
use Rattle.history_claims.proofs.StoredCalls.{NeedStored, PhaseStored, CallStored}
use Rattle.history_claims.proofs.Wrote.{IsNoOk}
use Rattle.history_law.specs.Turns.{IsBeginning, IsFirstNeed}

-- ---- to the end of a step that began with these grants and is about this call, which has met all this

module _ (before : List Held) (mine : Option CallOp) (ms : List Met) where
  abbrev pub EndsStored : Option Outcome → Type 0
  EndsStored None = Unit {0}
  EndsStored (Some o) = IsEnd before mine ms o

  abbrev pub Stored : Done → Type 0
  Stored d = CallStored d.client.held d.client.outstanding ms d.client.call × EndsStored d.outcome

  pub record DoneStored (d : Done) : Type 0 where
    pub stored : Stored d
    pub fine : FineDone Any d

  pub record StepStored (s : Step) : Type 0 where
    pub call : CallStored s.client.held s.client.outstanding ms s.client.call
    pub outcome : EndsStored s.outcome

  pub no_ok : (o : Outcome) → IsNoOk o → IsEnd before mine ms o
  no_ok (WriteOk count) k = absurd k
  no_ok (ReadOk bytes) k = absurd k
  no_ok o k = tt

  -- ---- what becomes of the call

  need_under : (hs : List Held) (op : CallOp) (k : Held) (n : Need) → held_of hs (file_of op) ≡ Some k →
      NeedUnder op k ms n → NeedStored hs op ms n
  need_under hs op k First e x = absurd x
  need_under hs op k (Get tries) e x = absurd x
  need_under hs op k (Commit timed) e x = (k, e, x)
  need_under hs op k (Report timed) e x = (k, e, x)
  need_under hs op k (Close o report) e x = tt

  phase_under : (hs : List Held) (out : Option Request) (op : CallOp) (k : Held) (p : Phase) →
      held_of hs (file_of op) ≡ Some k → PhaseUnder op k ms p → PhaseStored hs out op ms p
  phase_under hs out op k Starts e x = absurd x
  phase_under hs out op k (Needs n) e x = need_under hs op k n e x
  phase_under hs out op k (Waits n) e x = absurd x
  phase_under hs out op k (Reads io) e x = tt
  phase_under hs out op k (Probes io) e x = tt
  phase_under hs out op k (Gathers io) e x = (k, e, x)
  phase_under hs out op k (Scatters io queue) e x = (k, e, x)

  turn_stored : (d : Done) (op : CallOp) (k : Held) (t : Turn) → held_of d.client.held (file_of op) ≡ Some k →
      EndsStored d.outcome → TurnStored before mine ms op k t → Stored (by_turn d op t)
  turn_stored d op k (Goes p) e o x = (phase_under _ _ op k p e x, o)
  turn_stored d op k (Ends u) e o x = (tt, x)
  turn_stored d op k (Forgets u) e o x = (tt, no_ok u x)

  pub moved_stored : (d : Done) (op : CallOp) (h : Held) (m : Moved) → held_of d.client.held (file_of op) ≡ Some h →
      m.held.file ≡ h.file → EndsStored d.outcome → MovedStored before mine ms op m → Stored (moved d op m)
  moved_stored d op h m e file o x =
      turn_stored (record (with_held d m.held) { commands = m.sent }) op m.held m.turn
      (put_at d.client.held m.held (file_of op) (file ∙ held_file d.client.held (file_of op) h e)) o x

  -- ---- a call begins, and a request goes out

  first_stored : (hs : List Held) (op : CallOp) (n : Need) (o : Option Held) → IsFirstNeed op n o → IsQuiet ms →
      NeedStored hs op ms n
  first_stored hs op First o first quiet = quiet
  first_stored hs op (Get tries) o first quiet = quiet
  first_stored hs op (Commit timed) o first quiet = absurd first
  first_stored hs op (Report timed) o first quiet = absurd first
  first_stored hs op (Close outcome report) o first quiet = absurd first

  quiet_at : (d : Done) (op : CallOp) → DoneStored d → IsBeginning d.client op → IsQuiet ms
  quiet_at d op g is = subst (CallStored d.client.held d.client.outstanding ms) is g.stored.0

  begins_now : (d : Done) (op : CallOp) (h : Held) → DoneStored d → IsBeginning d.client op →
      held_of d.client.held (file_of op) ≡ Some h → covers h op ≡ true → DoneStored (moved d op (begins h op))
  begins_now d op h g is held cover =
      let has = call_bytes d.client.held d.client.call (record { op = op; phase = Starts }) is g.fine.call in
      record {
        stored =
            moved_stored d op h (begins h op) held (file_of_moved h (begins h op) (begins_file h op)) g.stored.1
            (begins_stored before mine ms op h (quiet_at d op g is) (g.fine.usable (file_of op) h held) has cover
            (λ w. writes_some h op (g.fine.usable (file_of op) h held) has cover w));
        fine = (finishes Any).begun d op h g.fine is held cover;
      }

  begun_stored : (d : Done) → DoneStored d → DoneStored (begun d)
  begun_stored d g =
      each_begin d DoneStored (record {
        stays = g;
        needs = λ op n is out first. record {
          stored = (
            first_stored d.client.held op n (held_of d.client.held (file_of op)) first (quiet_at d op g is),
            g.stored.1,
          );
          fine = (finishes Any).needs d op n g.fine is out first;
        };
        begun = λ op h is held cover. begins_now d op h g is held cover;
      })

  asks_stored : (d : Done) (op : CallOp) (n : Need) (o : Option Held) →
      d.client.call ≡ Some (record { op = op; phase = Needs n }) → held_of d.client.held (file_of op) ≡ o → Stored d →
      Stored (asks_under d op n o)
  unfolding requests args_of
  asks_stored d op n o is held g = by n o held (subst (CallStored d.client.held d.client.outstanding ms) is g.0)
    where
      by : (n : Need) (o : Option Held) → held_of d.client.held (file_of op) ≡ o → NeedStored d.client.held op ms n →
          Stored (asks_under d op n o)
      by First None e x = (x, g.1)
      by First (Some h) e x = (x, g.1)
      by (Get tries) None e x = (x, g.1)
      by (Get tries) (Some h) e x = (x, g.1)
      by (Commit timed) None e x = absurd (cc (sym x.1 ∙ e))
      by (Commit timed) (Some h) e x = (x, g.1)
      by (Report timed) None e x = absurd (cc (sym x.1 ∙ e))
      by (Report timed) (Some h) e x =
          let same : x.0 ≡ h = cc (sym x.1 ∙ e) in
          ((h, subst (λ (y : Held). Reporting op y ms timed) same x.2, (refl, refl)), g.1)
      by (Close u report) None e x = (tt, g.1)
      by (Close u report) (Some h) e x = (tt, g.1)

  returns_stored : (d : Done) (u : Option Due) → d.client.call ≡ None → Stored d → Stored (returns d u)
  unfolding requests
  returns_stored d None none g = g
  returns_stored d (Some u) none g = (rw none tt, g.1)

  pub finished_stored : (d : Done) → Stored d → FineDone Any d → StepStored (finished d)
  unfolding finished
  finished_stored d g fine =
      let b : DoneStored (begun d) = begun_stored d (record { stored = g; fine = fine }) in
      let p = each_progress (begun d) Stored (record {
        waits = λ r out. b.stored;
        works = λ call is out. b.stored;
        spent = λ none out z. b.stored;
        asks = λ op n h is out held. asks_stored (begun d) op n h is held b.stored;
        gives_back = λ u none out left is. returns_stored (begun d) u none b.stored;
      }) in
      record { call = p.0; outcome = p.1 }

  -- ---- a layout is given, or not

  busy_stored : (tries : ℕ) (o : Outcome) → IsNoOk o → IsQuiet ms → (d : Done) (op : CallOp) → EndsStored d.outcome →
      Stored (by_turn d op (busy tries o))
  unfolding busy
  busy_stored tries o k quiet_ d op e = by (nat_lt (tries + 1) MAX_TRIES)
    where
      by : (b : Bool) → Stored (by_turn d op (if b then needing (Get (tries + 1)) else Ends o))
      by true = (quiet_, e)
      by false = (tt, no_ok o k)

  pub get_stored : (d : Done) (op : CallOp) (tries : ℕ) (a : Answer) → IsQuiet ms → EndsStored d.outcome →
      Stored (on_get d op tries a)
  unfolding not_granted
  get_stored d op tries a quiet_ e = by (status_of a.results == NFS4_OK)
    where
      lacked : (b : Bool) → IsEnd before mine ms (if b then Spent else Degraded a.detail)
      lacked true = tt
      lacked false = tt

      refused : (n l c u : Bool) → Stored (by_turn d op
          (if n then Ends NoFile
          else if l then busy tries (HeldBy a.detail)
          else if c then busy tries (Fencing a.detail)
          else if u then Ends (unavailable a.detail)
          else Ends (Status (status_of a.results) a.detail)))
      refused true l c u = (tt, tt)
      refused false true c u = busy_stored tries (HeldBy a.detail) tt quiet_ d op e
      refused false false true u = busy_stored tries (Fencing a.detail) tt quiet_ d op e
      refused false false false true = (tt, lacked (a.detail == NO_COMPONENT))
      refused false false false false = (tt, tt)

      given : (r : Result Held Why) → Stored (answered_get d op r)
      given (Err w) = (tt, tt)
      given (Ok h) = (quiet_, e)

      by : (b : Bool) → Stored (if b then answered_get d op (taken a op)
          else by_turn d op (refused_with (status_of a.results) a.detail tries))
      by true = given (taken a op)
      by false =
          refused (status_of a.results == NFS4ERR_NOENT) (status_of a.results == NFS4ERR_LAYOUTTRYLATER)
          (status_of a.results == NFS4ERR_RECALLCONFLICT) (status_of a.results == NFS4ERR_LAYOUTUNAVAILABLE)
