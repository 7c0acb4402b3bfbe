-- The request of a client's turn: the machine behind its events.
-- Towards `CallsGoOn` (`specs/Steps.antt`).
use Rattle.std.proofs.Common.{◌≡◌, ◌==◌, ◌&&◌, ℕ, ◌+◌, ◌*◌, ◌^◌, ◌<◌, Bool, true, false, List, [], ◌∷◌, Option, Some, None, refl, sym, ap, subst, ◌∙◌, arith}
use Rattle.std.proofs.lemmas.Bool.{true≢false, eqb-true}
use Rattle.data_map.specs.declared.check.RawMap.{RawMap}
use Rattle.layout_ops.specs.declared.args.Args.{Args}
use Rattle.layout_ops.specs.declared.messages.Answer.{Answer}
use Rattle.client_rules.specs.declared.limits.TheConstants.{NONCES}
use Rattle.client_rules.specs.Calls.{file_of}
use Rattle.client_rules.specs.Going.{held_after, after_number, request_of}
use Rattle.client_rules.specs.Grants.{held_of, without_held}
use Rattle.client_rules.specs.Requests.{args_of, get_args, commit_args, return_args, report_of}
use Rattle.exchange_law.proofs.ClientKeeping.{none_left}
use Rattle.world_history.specs.ClientNames.{Client, CallOp, Held, Request, TimedOut, IoErr, Outcome, Need, First, Get, Commit, Report, Close, Needs, Waits}
use Rattle.world_history.specs.Calm.{returned_in}
use Rattle.fence_law.specs.Words.{updated, In as InRun}
use Rattle.fence_law.specs.State.{State, Grant, Event}
use Rattle.fence_law.specs.State.{Event as event}
use Rattle.fence_law.specs.Machine.{after, after_all}
use Rattle.fence_law.proofs.Slots.{Slots}
use Rattle.fence_law.proofs.Words.{updated_same}
use Rattle.file_simulation.specs.EventLists.{entry_of, of_grant}
use Rattle.file_simulation.specs.ClientEvents as table
use Rattle.file_simulation.specs.Calls.{IsIdle, IsReporting, NeedsCommit, WaitsCommit, NeedIs, WaitIs, CallAt, IsHolding, HeldIs, IsClient, reports_on, waits_report}
use Rattle.relation_law.specs.CallsTurns.{NeedHas}
use Rattle.relation_law.proofs.CallsSpared.{held_spared, idle_spared, reporting_spared, needs_commit_spared}
use Rattle.relation_law.proofs.CallsSends.{asks_carried, asks_other_carried, gives_back_idle, gives_back_none, reports_idle, reports_none, commit_asked, commit_asked_out}
use Rattle.relation_law.proofs.CallsMid.{held_plain}
use Rattle.relation_law.proofs.CallsGuards.{entry_writes}
use Rattle.exchange_law.proofs.RefusalTelling.{grant_read}

-- ---- no answer is there yet to a request that was just sent

pub none_answered : (s : State) (c : ℕ) → Slots s → (g : Grant) (size : ℕ) →
    InRun (record { client = c; sequence = updated s.sequence c (s.sequence c + 1) c; grant = Some g; size = size }) s.answers →
    ⊥
none_answered s c k g size i =
    let told =
    k.told (record { client = c; sequence = updated s.sequence c (s.sequence c + 1) c; grant = Some g; size = size }) i in
    grind (arith, updated_same s.sequence c (s.sequence c + 1), told, k.near c)

-- ---- a client that asks, in the machine behind that

module _ (file : ℕ) (m : RawMap) (c : ℕ) (s : State) (slots : Slots s) (used : s.nonce c < s.next * NONCES) where
  -- a layout
  pub asks_get : (rw_ : Bool) (x : Client) (o : Option Answer) → HeldIs file m s c x o (held_of x.held file) →
      CallAt file m (after s (event.Asks c rw_)) c o x.call → IsClient file m (after s (event.Asks c rw_)) c x o
  asks_get rw_ x o held call = record {
    held = held_spared s (after s (event.Asks c rw_)) c (asks_carried s c rw_) file m x o (held_of x.held file) held;
    call = call;
    fresh = λ g size w i. absurd (none_answered s c slots g size i);
    used = used;
  }

  -- something else
  pub asks_other : (x : Client) (o : Option Answer) → s.waiting c ≡ false → HeldIs file m s c x o (held_of x.held file) →
      CallAt file m (after s (event.AsksOther c)) c o x.call → IsClient file m (after s (event.AsksOther c)) c x o
  asks_other x o free held call = record {
    held = held_spared s (after s (event.AsksOther c)) c (asks_other_carried s c) file m x o (held_of x.held file) held;
    call = call;
    fresh = λ g size w i. absurd (true≢false (sym w ∙ free));
    used = used;
  }

  none_held : (t : State) (x : Client) (o : Option Answer) → held_of x.held file ≡ None → reports_on file x.call ≡ false →
      t.held c ≡ None → HeldIs file m t c x o (held_of x.held file)
  none_held t x o none quiet e = rw (none, quiet) e

  -- that a grant goes back
  pub gives_back : (x : Client) (o : Option Answer) (g : Grant) → held_of x.held file ≡ None →
      reports_on file x.call ≡ false → CallAt file m (after s (event.GivesBack c g)) c o x.call →
      IsClient file m (after s (event.GivesBack c g)) c x o
  gives_back x o g none quiet call = record {
    held = none_held (after s (event.GivesBack c g)) x o none quiet (gives_back_none s c g);
    call = call;
    fresh = λ y size w i. absurd (none_answered s c slots y size i);
    used = used;
  }

  -- or goes back with a report
  pub goes_back : (x : Client) (o : Option Answer) (g : Grant) → held_of x.held file ≡ None →
      reports_on file x.call ≡ false → CallAt file m (after s (event.Reports c g)) c o x.call →
      IsClient file m (after s (event.Reports c g)) c x o
  goes_back x o g none quiet call = record {
    held = none_held (after s (event.Reports c g)) x o none quiet (reports_none s c g);
    call = call;
    fresh = λ y size w i. absurd (none_answered s c slots y size i);
    used = used;
  }

-- ---- the request of a call on the file

-- the client behind its call's request
abbrev pub asked_client : Client → CallOp → Need → Args → Client
asked_client y op n a = record y {
  next = after_number y.next;
  outstanding = Some (request_of y (file_of op) a);
  held = held_after y.held (file_of op) a;
  call = Some (record { op = op; phase = Waits n });
}

-- what it asks, under the grant that it holds, if any
abbrev pub asked_args : CallOp → Need → Option Held → Args
asked_args op n None = get_args op
asked_args op n (Some h) = args_of h op n

module _ (file : ℕ) (m : RawMap) (c : ℕ) (s : State) (slots : Slots s) (used : s.nonce c < s.next * NONCES)
    (free : s.waiting c ≡ false) (y : Client) (op : CallOp) (here : (file_of op == file) ≡ true) (n : Need)
    (call_is : y.call ≡ Some (record { op = op; phase = Needs n })) where
  abbrev x : Args → Client
  x a = asked_client y op n a

  -- before it no report waits
  quiet_before : reports_on file y.call ≡ false
  quiet_before = ap (reports_on file) call_is ∙ by_file (file_of op == file)
    where
      by_file : (b : Bool) → (b && waits_report (Needs n)) ≡ false
      by_file true = refl
      by_file false = refl

  gone_here : held_of (without_held y.held (file_of op)) file ≡ None
  gone_here = ap (λ (i : ℕ). held_of (without_held y.held (file_of op)) i) (sym (eqb-true (file_of op) file here))
      ∙ none_left y.held (file_of op)

  here_call : (t : State) (a : Args) → WaitIs t c op None n → CallAt file m t c None (x a).call
  here_call t a w = rw here w

  quiet_behind : waits_report (Waits n) ≡ false → (a : Args) → reports_on file (x a).call ≡ false
  quiet_behind e a = rw here e

  -- a layout is asked
  get_asked : (rw_ : Bool) (a : Args) → held_after y.held (file_of op) a ≡ y.held → waits_report (Waits n) ≡ false →
      HeldIs file m s c y None (held_of y.held file) → WaitIs (after s (event.Asks c rw_)) c op None n →
      IsClient file m (after s (event.Asks c rw_)) c (x a) None
  get_asked rw_ a same quiet held w =
      asks_get file m c s slots used rw_ (x a) None
      (subst (λ (hs : List Held). HeldIs file m s c (x a) None (held_of hs file)) (sym same)
      (held_plain file m s c y (x a) None None (held_of y.held file) quiet_before (quiet_behind quiet a) held))
      (here_call (after s (event.Asks c rw_)) a w)

  -- its grant goes back, clean
  back_asked : (h : Held) (a : Args) → held_after y.held (file_of op) a ≡ without_held y.held (file_of op) →
      waits_report (Waits n) ≡ false → (k : IsHolding m s c h) → WaitIs (after s (event.GivesBack c k.grant)) c op None n →
      IsClient file m (after_all s (of_grant (s.held c) (λ g. event.GivesBack c g ∷ []))) c (x a) None
  back_asked h a gone quiet k w =
      rw k.held (gives_back file m c s slots used (x a) None k.grant (rw gone gone_here) (quiet_behind quiet a)
      (here_call (after s (event.GivesBack c k.grant)) a w))

  -- or with a report
  report_asked : (h : Held) (a : Args) → held_after y.held (file_of op) a ≡ without_held y.held (file_of op) →
      waits_report (Waits n) ≡ false → (k : IsHolding m s c h) → WaitIs (after s (event.Reports c k.grant)) c op None n →
      IsClient file m (after_all s (of_grant (s.held c) (λ g. event.Reports c g ∷ []))) c (x a) None
  report_asked h a gone quiet k w =
      rw k.held (goes_back file m c s slots used (x a) None k.grant (rw gone gone_here) (quiet_behind quiet a)
      (here_call (after s (event.Reports c k.grant)) a w))

-- ---- by what the call needs

module _ (file : ℕ) (m : RawMap) (c : ℕ) (s : State) (slots : Slots s) (used : s.nonce c < s.next * NONCES)
    (free : s.waiting c ≡ false) (y : Client) (op : CallOp) (here : (file_of op == file) ≡ true) where
  -- the events of the request
  abbrev events : Need → Args → List Event
  events n a = table.asks_here s c (Some (Waits n)) a

  abbrev Behind : Need → Args → Type 0
  Behind n a = IsClient file m (after_all s (events n a)) c (asked_client y op n a) None

  abbrev IsNeeding : Need → Type 0
  IsNeeding n = y.call ≡ Some (record { op = op; phase = Needs n })

  idle_asks : (rw_ : Bool) → IsIdle s c → IsIdle (after s (event.Asks c rw_)) c
  idle_asks rw_ k = idle_spared s (after s (event.Asks c rw_)) c (asks_carried s c rw_) k

  first_asked : IsNeeding First → (q : Option Held) → held_of y.held file ≡ q → HeldIs file m s c y None (held_of y.held file) →
      IsIdle s c → Behind First (asked_args op First q)
  unfolding args_of
  first_asked is None e held idle =
      get_asked file m c s slots used free y op here First is _ (get_args op) refl refl held (idle_asks _ idle)
  first_asked is (Some h) e held idle =
      let k : IsHolding m s c h = subst (λ z. HeldIs file m s c y None z) e held in
      back_asked file m c s slots used free y op here First is h (return_args h.number []) refl refl k
      (gives_back_idle s c k.grant idle)

  get_again : (tries : ℕ) → IsNeeding (Get tries) → (q : Option Held) → held_of y.held file ≡ q →
      HeldIs file m s c y None (held_of y.held file) → IsIdle s c → Behind (Get tries) (asked_args op (Get tries) q)
  unfolding args_of
  get_again tries is None e held idle =
      get_asked file m c s slots used free y op here (Get tries) is _ (get_args op) refl refl held (idle_asks _ idle)
  get_again tries is (Some h) e held idle =
      get_asked file m c s slots used free y op here (Get tries) is _ (get_args op) refl refl held (idle_asks _ idle)

  commit_waits : (timed : List TimedOut) (j : ℕ) → NeedsCommit s c op timed j →
      WaitsCommit (after (after s (event.AsksOther c)) (event.AsksCommit c j)) c op timed None j
  commit_waits timed j k =
      let t : State = after s (event.AsksOther c) in
      let w : NeedsCommit t c op timed j = needs_commit_spared s t c (asks_other_carried s c) op timed j k in
      record {
        writing = commit_asked t c op j w.writing;
        out = commit_asked_out t c j j timed w.out;
        committed = tt;
      }

  commit_behind : (timed : List TimedOut) → IsNeeding (Commit timed) → (h : Held) → held_of y.held file ≡ Some h →
      HeldIs file m s c y None (held_of y.held file) → ((j : ℕ) × NeedsCommit s c op timed j) →
      Behind (Commit timed) (asked_args op (Commit timed) (Some h))
  unfolding args_of
  commit_behind timed is h e held (j, k) =
      let u : State = after (after s (event.AsksOther c)) (event.AsksCommit c (entry_of s c)) in
      let z : IsHolding m s c h = subst (λ q. HeldIs file m s c y None q) e held in
      record {
        held = subst (λ q. HeldIs file m u c (asked_client y op (Commit timed) (commit_args h op)) None q) (sym e)
            (record { grant = z.grant; held = z.held; same = z.same; size = z.size; nonce = z.nonce });
        call = rw here (
          j,
          subst (λ i. WaitsCommit (after (after s (event.AsksOther c)) (event.AsksCommit c i)) c op timed None j)
              (sym (entry_writes s c j k.writing.at_)) (commit_waits timed j k),
        );
        fresh = λ g size w i. absurd (true≢false (sym w ∙ free));
        used = used;
      }

  report_behind : (timed : List TimedOut) → IsNeeding (Report timed) → (h : Held) → held_of y.held file ≡ Some h →
      h.number < 2 ^ 32 → HeldIs file m s c y None (held_of y.held file) → ((j : ℕ) × IsReporting s c op timed j) →
      Behind (Report timed) (asked_args op (Report timed) (Some h))
  unfolding args_of
  report_behind timed is h e few held (j, k) =
      let t : State = after s (event.AsksOther c) in
      let z : IsHolding m s c h = subst (λ q. HeldIs file m s c y None q) e held in
      let gone : held_of (without_held y.held (file_of op)) file ≡ None =
      ap (λ (i : ℕ). held_of (without_held y.held (file_of op)) i) (sym (eqb-true (file_of op) file here))
      ∙ none_left y.held (file_of op) in
      record {
        held = subst (λ q. HeldIs file m t c (asked_client y op (Report timed) (return_args h.number (report_of h timed))) None q)
            (sym gone) (rw here (record {
              grant = z.grant;
              held = z.held;
              returned = λ r is. ap (λ (q : Request). returned_in q.args) (sym (same_request _ r is))
                  ∙ ap (λ (i : ℕ). Some i) (grant_read h.number few ∙ sym (z.same.same.number ∙ sym z.same.agrees.number));
            }));
        call = rw here (j, reporting_spared s t c (asks_other_carried s c) op timed j k);
        fresh = λ g size w i. absurd (true≢false (sym w ∙ free));
        used = used;
      }
    where
      same_request : (p r : Request) → Some p ≡ Some r → p ≡ r
      same_request p r q = cc q

  close_behind : (u : Outcome) (report : List IoErr) → IsNeeding (Close u report) → (h : Held) → held_of y.held file ≡ Some h →
      HeldIs file m s c y None (held_of y.held file) → NeedIs s c op (Close u report) →
      Behind (Close u report) (asked_args op (Close u report) (Some h))
  unfolding args_of
  close_behind u [] is h e held idle =
      let k : IsHolding m s c h = subst (λ z. HeldIs file m s c y None z) e held in
      back_asked file m c s slots used free y op here (Close u []) is h (return_args h.number []) refl refl k
      (gives_back_idle s c k.grant idle)
  close_behind u (i ∷ es) is h e held broken =
      let k : IsHolding m s c h = subst (λ z. HeldIs file m s c y None z) e held in
      report_asked file m c s slots used free y op here (Close u (i ∷ es)) is h (return_args h.number (i ∷ es)) refl refl k
      (reports_idle s c k.grant broken)

  -- What is asked of grant numbers: they fit in a request.
  abbrev pub NumberFits : Option Held → Type 0
  NumberFits None = Unit {0}
  NumberFits (Some h) = h.number < 2 ^ 32

  pub request_behind : (n : Need) (q : Option Held) → IsNeeding n → held_of y.held file ≡ q → NumberFits q →
      HeldIs file m s c y None (held_of y.held file) → NeedIs s c op n → NeedHas n q → Behind n (asked_args op n q)
  request_behind First q is e few held k has = first_asked is q e held k
  request_behind (Get tries) q is e few held k has = get_again tries is q e held k
  request_behind (Commit timed) (Some h) is e few held k has = commit_behind timed is h e held k
  request_behind (Report timed) (Some h) is e few held k has = report_behind timed is h e few held k
  request_behind (Close u report) (Some h) is e few held k has = close_behind u report is h e held k
  request_behind (Commit timed) None is e few held k has = absurd has
  request_behind (Report timed) None is e few held k has = absurd has
  request_behind (Close u report) None is e few held k has = absurd has
