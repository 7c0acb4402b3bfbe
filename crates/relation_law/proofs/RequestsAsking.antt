-- A client in the middle of a step has asked what its call waits for, and holds no grant that it returns.
-- Towards `ReturnsAreHeld` (`specs/RequestsGoing.antt`).
use Rattle.std.proofs.Common.{◌≡◌, ◌==◌, ℕ, Bool, true, false, List, [], Option, Some, None, find, refl, sym, ap, subst, ◌∙◌, if◌then◌else◌}
use Rattle.std.proofs.lemmas.Bool.{true≢false}
use Rattle.layout_types.specs.declared.ioerrs.IoErr.{IoErr}
use Rattle.client_rules.specs.Calls.{file_of}
use Rattle.client_rules.specs.Going.{moved, phased, by_turn, with_held, begins, begun, starts_with, starts_under, starts_at, starts_call, progressed, progress_free, progress_call, progress_phase, returns, returns_due, asks_under, requests, request_of, is_held}
use Rattle.client_rules.specs.Grants.{covers, held_of, put_held, without_held}
use Rattle.client_rules.specs.Messages.{finished}
use Rattle.client_rules.specs.Requests.{args_of, get_args, commit_args, return_args, report_of}
use Rattle.client_rules.proofs.HeldGrants.{held_file, put_at}
use Rattle.world_history.specs.ClientNames.{Client, Call, CallOp, Held, Due, Request, Need, First, Get, Commit, Report, Close, Phase, Starts, Needs, Waits, Reads, Probes, Gathers, Scatters, Turn, Goes, Ends, Forgets, Moved, TimedOut, Done}
use Rattle.exchange_law.specs.Calls.{Has}
use Rattle.exchange_law.proofs.ClientKeeping.{put_other, none_left, without_read}
use Rattle.relation_law.specs.Requests.{waits_in, Works, IsReturning}
use Rattle.relation_law.specs.RequestsClients.{IsReturnOf, AsksBy, NeedsHeld, IsCommit, AsksFor}
use Rattle.relation_law.proofs.RequestsDealt.{file_of_moved, begins_file}
use Rattle.relation_law.proofs.RequestsMoves.{WorksTurn, WorksMoved, turn_of, begins_works}

-- ---- words

needs_some : (n : Need) (h : Held) → NeedsHeld n (Some h)
needs_some First h = tt
needs_some (Get tries) h = tt
needs_some (Commit timed) h = tt
needs_some (Report timed) h = tt
needs_some (Close u report) h = tt

-- the operation and the phase of a call, if there is one
abbrev op_of : CallOp → Option Call → CallOp
op_of a None = a
op_of a (Some call) = call.op

abbrev phase_in : Phase → Option Call → Phase
phase_in p None = p
phase_in p (Some call) = call.phase

op_same : (a b : CallOp) (p q : Phase)
    → ◌≡◌ {A = Option Call} (Some (record { op = a; phase = p })) (Some (record { op = b; phase = q })) → a ≡ b
op_same a b p q e = ap (op_of a) e

phase_same : (a b : CallOp) (p q : Phase)
    → ◌≡◌ {A = Option Call} (Some (record { op = a; phase = p })) (Some (record { op = b; phase = q })) → p ≡ q
phase_same a b p q e = ap (phase_in p) e

waits_needs : (n z : Need) → Waits n ≡ Needs z → ⊥
waits_needs n z e = cc e

-- a phase that works isn't one that waits
not_waiting : (a b : CallOp) (p : Phase) (n : Need) → Works p
    → ◌≡◌ {A = Option Call} (Some (record { op = a; phase = p })) (Some (record { op = b; phase = Waits n })) → ⊥
not_waiting a b p n works e =
    true≢false (sym (ap waits_in (phase_same a b p (Waits n) e)) ∙ works)

pub some_none : {A : Type 0} {x : A} {o : Option A} → o ≡ Some x → o ≡ None → ⊥
some_none is none = cc (sym is ∙ none)

none_by : (o : Option Held) → ((h : Held) → o ≡ Some h → ⊥) → o ≡ None
none_by None none = refl
none_by (Some h) none = absurd (none h refl)

-- ---- where nothing is outstanding, or only a return

-- a client without a call
pub no_call : (x : Client) → x.call ≡ None → ((r : Request) → x.outstanding ≡ Some r → IsReturnOf [] r.args)
    → ((r : Request) → x.outstanding ≡ Some r → IsReturning r.args → held_of x.held r.file ≡ None) → AsksFor x
no_call x none due gone = record {
  waits = λ op n at. absurd (cc (sym none ∙ at));
  due = λ free. due;
  gone = gone;
  needs = λ op n at. absurd (cc (sym none ∙ at));
  commits = λ op n at is. absurd (cc (sym none ∙ at));
}

-- one whose call works
pub works_on : (x : Client) (op : CallOp) (p : Phase) → x.call ≡ Some (record { op = op; phase = p }) → Works p
    → ((r : Request) → x.outstanding ≡ Some r → IsReturnOf [] r.args)
    → ((r : Request) → x.outstanding ≡ Some r → IsReturning r.args → held_of x.held r.file ≡ None)
    → ((n : Need) → p ≡ Needs n → NeedsHeld n (held_of x.held (file_of op))) → AsksFor x
works_on x op p is works due gone need = record {
  waits = λ b n at. absurd (not_waiting op b p n works (sym is ∙ at));
  due = λ free. due;
  gone = gone;
  needs = λ b n at. subst (λ (z : CallOp). NeedsHeld n (held_of x.held (file_of z)))
      (op_same op b p (Needs n) (sym is ∙ at)) (need n (phase_same op b p (Needs n) (sym is ∙ at)));
  commits = λ b n at c_is. absurd (not_waiting op b p n works (sym is ∙ at));
}

-- a client that is alike
pub alike : (x y : Client) → y.call ≡ x.call → y.outstanding ≡ x.outstanding → y.held ≡ x.held → AsksFor x → AsksFor y
alike x y call out held k = record {
  waits = λ op n at.
      let w = k.waits op n (sym call ∙ at) in
      record { request = w.request; outstanding = out ∙ w.outstanding; file_is = w.file_is; asks = w.asks };
  due = λ free r e. k.due (λ op n at. free op n (call ∙ at)) r (sym out ∙ e);
  gone = λ r e back. ap (λ (z : List Held). held_of z r.file) held ∙ k.gone r (sym out ∙ e) back;
  needs = λ op n at.
      subst (λ (z : List Held). NeedsHeld n (held_of z (file_of op))) (sym held) (k.needs op n (sym call ∙ at));
  commits = λ op n at c_is.
      subst (λ (z : List Held). Has (held_of z (file_of op))) (sym held) (k.commits op n (sym call ∙ at) c_is);
}

-- ---- a call goes on with the drives

module _ (d : Done) (op : CallOp) (h : Held) (held : held_of d.client.held (file_of op) ≡ Some h)
    (due : (r : Request) → d.client.outstanding ≡ Some r → IsReturnOf [] r.args)
    (gone : (r : Request) → d.client.outstanding ≡ Some r → IsReturning r.args → held_of d.client.held r.file ≡ None)
    (m : Moved) (file : m.held.file ≡ h.file) where
  abbrev hs : List Held
  hs = put_held d.client.held m.held

  file_here : m.held.file ≡ file_of op
  file_here = file ∙ held_file d.client.held (file_of op) h held

  gone_still : (r : Request) → d.client.outstanding ≡ Some r → IsReturning r.args → held_of hs r.file ≡ None
  gone_still r out back =
      put_other d.client.held m.held r.file
      (λ e. some_none held (ap (held_of d.client.held) (sym file_here ∙ e) ∙ gone r out back)) ∙ gone r out back

  turn_asks : (t : Turn) → WorksTurn t
      → AsksFor (by_turn (record (with_held d m.held) { commands = m.sent }) op t).client
  unfolding WorksTurn
  turn_asks (Goes p) works =
      works_on _ op p refl works due gone_still
      (λ n is. subst (NeedsHeld n) (sym (put_at d.client.held m.held (file_of op) file_here)) (needs_some n m.held))
  turn_asks (Ends o) works = no_call _ refl due gone_still
  turn_asks (Forgets o) works =
      no_call _ refl due
      (λ r out back. none_by (held_of (without_held hs (file_of op)) r.file)
      (λ j is. some_none (without_read hs (file_of op) r.file j is) (gone_still r out back)))

  pub moved_asks : WorksMoved m → AsksFor (moved d op m).client
  moved_asks works = turn_asks m.turn (turn_of m works)

-- what is known of a client whose call works
pub works_due : (x : Client) (op : CallOp) (p : Phase) → x.call ≡ Some (record { op = op; phase = p }) → Works p → AsksFor x
    → (r : Request) → x.outstanding ≡ Some r → IsReturnOf [] r.args
works_due x op p is works k = k.due (λ b n at. not_waiting op b p n works (sym is ∙ at))

-- ---- a call begins

module _ (d : Done) (k : AsksFor d.client) where
  module _ (op : CallOp) (is : d.client.call ≡ Some (record { op = op; phase = Starts })) where
    with_need : (n : Need) → NeedsHeld n (held_of d.client.held (file_of op)) → (o : Option Request)
        → d.client.outstanding ≡ o → AsksFor (starts_with d op n o).client
    with_need n has (Some r) out = k
    with_need n has None out =
        works_on _ op (Needs n) refl refl (λ r e. absurd (some_none e out)) (λ r e back. absurd (some_none e out))
        (λ b at. subst (λ (z : Need). NeedsHeld z (held_of d.client.held (file_of op))) (need_same n b at) has)
      where
        need_same : (n b : Need) → Needs n ≡ Needs b → n ≡ b
        need_same n b e = cc e

    covered : (h : Held) → held_of d.client.held (file_of op) ≡ Some h → (b : Bool)
        → AsksFor (if b then moved d op (begins h op) else starts_with d op First d.client.outstanding).client
    covered h held true =
        moved_asks d op h held (works_due d.client op Starts is refl k) k.gone (begins h op)
        (file_of_moved h (begins h op) (begins_file h op)) (begins_works h op)
    covered h held false =
        with_need First (subst (NeedsHeld First) (sym held) tt) d.client.outstanding refl

    under : (o : Option Held) → held_of d.client.held (file_of op) ≡ o → AsksFor (starts_under d op o).client
    under None held = with_need (Get 0) tt d.client.outstanding refl
    under (Some h) held = covered h held (covers h op)

  at_phase : (op : CallOp) (p : Phase) → d.client.call ≡ Some (record { op = op; phase = p })
      → AsksFor (starts_at d op p).client
  at_phase op Starts is = under op is (held_of d.client.held (file_of op)) refl
  at_phase op (Needs n) is = k
  at_phase op (Waits n) is = k
  at_phase op (Reads io) is = k
  at_phase op (Probes io) is = k
  at_phase op (Gathers io) is = k
  at_phase op (Scatters io queue) is = k

  at_call : (o : Option Call) → d.client.call ≡ o → AsksFor (starts_call d o).client
  at_call None is = k
  at_call (Some call) is = at_phase call.op call.phase is

  begun_asks : AsksFor (begun d).client
  unfolding begun
  begun_asks = at_call d.client.call refl

-- ---- a request goes out

-- behind a return nothing is held on its file
returned_asks : (d : Done) (file number : ℕ) → d.client.call ≡ None → AsksFor (requests d file (return_args number [])).client
unfolding requests
returned_asks d file number none =
    no_call _ none (λ r out. subst (λ (q : Request). IsReturnOf [] q.args) (some_same out) (number, refl))
    (λ r out back. subst (λ (q : Request). held_of (without_held d.client.held file) q.file ≡ None) (some_same out)
    (none_left d.client.held file))
  where
    some_same : {q r : Request} → Some q ≡ Some r → q ≡ r
    some_same e = cc e

module _ (d : Done) (op : CallOp) (n : Need) where
  -- the call waits for a return
  waits_return : (number : ℕ) (report : List IoErr) → AsksBy n (return_args number report) → (IsCommit n → ⊥)
      → AsksFor (requests (phased d op (Waits n)) (file_of op) (return_args number report)).client
  unfolding requests
  waits_return number report asks none = record {
    waits = λ b z at. record {
      request = request_of (phased d op (Waits n)).client (file_of op) (return_args number report);
      outstanding = refl;
      file_is = ap file_of (op_same op b (Waits n) (Waits z) at);
      asks = subst (λ (q : Need). AsksBy q (return_args number report)) (waits_same n z (phase_same op b (Waits n) (Waits z) at))
          asks;
    };
    due = λ free r out. absurd (free op n refl);
    gone = λ r out back. subst (λ (q : Request). held_of (without_held d.client.held (file_of op)) q.file ≡ None)
        (some_same out) (none_left d.client.held (file_of op));
    needs = λ b z at. absurd (waits_needs n z (phase_same op b (Waits n) (Needs z) at));
    commits = λ b z at c_is. absurd (none (subst IsCommit (sym (waits_same n z (phase_same op b (Waits n) (Waits z) at))) c_is));
  }
    where
      some_same : {q r : Request} → Some q ≡ Some r → q ≡ r
      some_same e = cc e

      waits_same : (a b : Need) → Waits a ≡ Waits b → a ≡ b
      waits_same a b e = cc e

module _ (d : Done) (op : CallOp) where
  -- it waits for a LAYOUTGET
  waits_get : (tries : ℕ) → AsksFor (requests (phased d op (Waits (Get tries))) (file_of op) (get_args op)).client
  unfolding requests
  waits_get tries = record {
    waits = λ b z at. record {
      request = request_of (phased d op (Waits (Get tries))).client (file_of op) (get_args op);
      outstanding = refl;
      file_is = ap file_of (op_same op b (Waits (Get tries)) (Waits z) at);
      asks = subst (λ (q : Need). AsksBy q (get_args op)) (waits_same (phase_same op b (Waits (Get tries)) (Waits z) at)) tt;
    };
    due = λ free r out. absurd (free op (Get tries) refl);
    gone = λ r out back. absurd (subst (λ (q : Request). IsReturning q.args) (sym (some_same out)) back);
    needs = λ b z at. absurd (waits_needs (Get tries) z (phase_same op b (Waits (Get tries)) (Needs z) at));
    commits = λ b z at c_is.
        absurd (subst IsCommit (sym (waits_same (phase_same op b (Waits (Get tries)) (Waits z) at))) c_is);
  }
    where
      some_same : {q r : Request} → Some q ≡ Some r → q ≡ r
      some_same e = cc e

      waits_same : {a b : Need} → Waits a ≡ Waits b → a ≡ b
      waits_same e = cc e

  -- or for a commit
  waits_commit : (timed : List TimedOut) (h : Held) → held_of d.client.held (file_of op) ≡ Some h
      → AsksFor (requests (phased d op (Waits (Commit timed))) (file_of op) (commit_args h op)).client
  unfolding requests
  waits_commit timed h held = record {
    waits = λ b z at. record {
      request = request_of (phased d op (Waits (Commit timed))).client (file_of op) (commit_args h op);
      outstanding = refl;
      file_is = ap file_of (op_same op b (Waits (Commit timed)) (Waits z) at);
      asks = subst (λ (q : Need). AsksBy q (commit_args h op))
          (waits_same (phase_same op b (Waits (Commit timed)) (Waits z) at)) tt;
    };
    due = λ free r out. absurd (free op (Commit timed) refl);
    gone = λ r out back. absurd (subst (λ (q : Request). IsReturning q.args) (sym (some_same out)) back);
    needs = λ b z at. absurd (waits_needs (Commit timed) z (phase_same op b (Waits (Commit timed)) (Needs z) at));
    commits = λ b z at c_is. subst (λ (q : CallOp). Has (held_of d.client.held (file_of q)))
        (op_same op b (Waits (Commit timed)) (Waits z) at) (subst Has (sym held) tt);
  }
    where
      some_same : {q r : Request} → Some q ≡ Some r → q ≡ r
      some_same e = cc e

      waits_same : {a b : Need} → Waits a ≡ Waits b → a ≡ b
      waits_same e = cc e

  -- what the call needs goes out
  asks_it : (n : Need) (o : Option Held) → held_of d.client.held (file_of op) ≡ o → NeedsHeld n o
      → AsksFor (asks_under d op n o).client
  unfolding args_of
  asks_it (Get tries) None held has = waits_get tries
  asks_it First None held has = absurd has
  asks_it (Commit timed) None held has = absurd has
  asks_it (Report timed) None held has = absurd has
  asks_it (Close u report) None held has = absurd has
  asks_it First (Some h) held has = waits_return d op First h.number [] (h.number, refl) (λ z. z)
  asks_it (Get tries) (Some h) held has = waits_get tries
  asks_it (Commit timed) (Some h) held has = waits_commit timed h held
  asks_it (Report timed) (Some h) held has =
      waits_return d op (Report timed) h.number (report_of h timed) (h, (h.number, refl)) (λ z. z)
  asks_it (Close u report) (Some h) held has = waits_return d op (Close u report) h.number report (h.number, refl) (λ z. z)

-- ---- to the end of a step

module _ (d : Done) (k : AsksFor d.client) where
  by_phase : (op : CallOp) (p : Phase) → d.client.call ≡ Some (record { op = op; phase = p })
      → AsksFor (progress_phase d op p).client
  by_phase op (Needs n) is = asks_it d op n (held_of d.client.held (file_of op)) refl (k.needs op n is)
  by_phase op Starts is = k
  by_phase op (Waits n) is = k
  by_phase op (Reads io) is = k
  by_phase op (Probes io) is = k
  by_phase op (Gathers io) is = k
  by_phase op (Scatters io queue) is = k

  gives_back : d.client.call ≡ None → (u : Option Due) → AsksFor (returns d u).client
  gives_back none None = alike d.client _ refl refl refl k
  gives_back none (Some u) = returned_asks _ u.file u.number none

  due_back : d.client.call ≡ None → AsksFor (returns_due d).client
  unfolding returns_due
  due_back none = either (d.client.next == 0)
    where
      either : (b : Bool) → AsksFor (if b then d else returns d (find (is_held d.client.held) d.client.due)).client
      either true = k
      either false = gives_back none (find (is_held d.client.held) d.client.due)

  by_call : (o : Option Call) → d.client.call ≡ o → AsksFor (progress_call d o).client
  by_call None is = due_back is
  by_call (Some call) is = by_phase call.op call.phase is

  by_out : (o : Option Request) → d.client.outstanding ≡ o → AsksFor (progress_free d o).client
  by_out None out = by_call d.client.call refl
  by_out (Some r) out = k

  progressed_asks : AsksFor (progressed d).client
  unfolding progressed
  progressed_asks = by_out d.client.outstanding refl

pub finished_asks : (d : Done) → AsksFor d.client → AsksFor (finished d).client
unfolding finished
finished_asks d k = progressed_asks (begun d) (begun_asks d k)
