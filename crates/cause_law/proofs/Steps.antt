-- Whatever comes to a client, its call goes on as what it met allows, or ends as that tells.
use Rattle.std.proofs.Common.{◌≡◌, ◌<◌, ◌⊎◌, ℕ, Bool, true, false, List, [], Option, Some, None, length, refl, sym, ap, subst, ◌∙◌, arith, inl, inr, if◌then◌else◌}
use Rattle.layout_ops.specs.declared.args.Args.{Args}
use Rattle.layout_ops.specs.declared.args.Args.TheVariants as args
use Rattle.world_history.specs.ClientNames.{Client, Call, CallOp, Held, Due, Need, First, Get, Commit, Report, Close, Phase, Starts, Needs, Waits, Reads, Probes, Gathers, Scatters, Outcome, Turn, Goes, Ends, Forgets, Moved, Done, Request}
use Rattle.client_rules.specs.Calls.{file_of}
use Rattle.client_rules.specs.Grants.{covers, held_of, put_held}
use Rattle.client_rules.specs.Requests.{args_of}
use Rattle.client_rules.specs.Going.{over, with_held, by_turn, moved, begins, starts_with, starts_under, starts_at, starts_call, begun, held_after, requests, asks_under, returns, progressed}
use Rattle.client_rules.specs.Messages.{Step, finished}
use Rattle.client_rules.proofs.HeldGrants.{held_file, put_at}
use Rattle.history_law.proofs.Turns.{each_progress}
use Rattle.cause_law.specs.Met.{Met, busy_in, grant_under, failure_at}
use Rattle.cause_law.proofs.Fetching.{NoReplies}
use Rattle.cause_law.proofs.Trace.{Works, IsReturn, EndsSo}
use Rattle.cause_law.proofs.Working.{GoodNeed, GoodPhase, GoodTurn, GoodMoved, begins_good}
use Rattle.cause_law.proofs.Given.{IsGet}

-- ---- a client between steps

-- nothing is outstanding, or a return
abbrev pub ReturnsOnly : Option Request → Type 0
ReturnsOnly None = Unit {0}
ReturnsOnly (Some r) = IsReturn r.args

-- a call that hasn't begun: it has asked for no layout in vain, or holds a grant that covers it
pub record Started (hs : List Held) (op : CallOp) (ms : List Met) : Type 0 where
  pub works : Works op ms []
  pub quiet : NoReplies ms
  pub says : failure_at op ms ≡ None
  pub next : (length (busy_in ms) ≡ 0)
      ⊎ ((h : Held) × (held_of hs (file_of op) ≡ Some h) × (covers h op ≡ true))
  pub under : grant_under hs op ms ≡ held_of hs (file_of op)

-- one that asks for a layout, after so many busy answers
pub record Asking (hs : List Held) (op : CallOp) (ms : List Met) (tries : ℕ) : Type 0 where
  pub works : Works op ms []
  pub quiet : NoReplies ms
  pub count : length (busy_in ms) ≡ tries
  pub less : tries < 3
  pub none : held_of hs (file_of op) ≡ None

-- one that gives back a grant that doesn't cover it
pub record Returning (op : CallOp) (ms : List Met) : Type 0 where
  pub works : Works op ms []
  pub quiet : NoReplies ms
  pub count : length (busy_in ms) ≡ 0

abbrev pub HasGrant : List Held → CallOp → Type 0
HasGrant hs op = (h : Held) × (held_of hs (file_of op) ≡ Some h)

-- what a call needs
abbrev pub NeedsGood : List Held → CallOp → Need → List Met → Type 0
NeedsGood hs op First ms = HasGrant hs op × Returning op ms
NeedsGood hs op (Get tries) ms = Asking hs op ms tries
NeedsGood hs op (Commit timed) ms = HasGrant hs op × GoodNeed op (Commit timed) ms
NeedsGood hs op (Report timed) ms = HasGrant hs op × GoodNeed op (Report timed) ms
NeedsGood hs op (Close o report) ms = HasGrant hs op × GoodNeed op (Close o report) ms

-- and once that was asked
abbrev pub WaitsGood : List Held → CallOp → Need → List Met → Type 0
WaitsGood hs op First ms = Returning op ms
WaitsGood hs op (Get tries) ms = Asking hs op ms tries
WaitsGood hs op (Commit timed) ms = HasGrant hs op × GoodNeed op (Commit timed) ms
WaitsGood hs op (Report timed) ms = GoodNeed op (Report timed) ms
WaitsGood hs op (Close o report) ms = GoodNeed op (Close o report) ms

-- a LAYOUTCOMMIT
abbrev pub IsCommit : Args → Type 0
IsCommit (args.LayoutGet x) = ⊥
IsCommit (args.LayoutCommit x) = Unit {0}
IsCommit (args.LayoutReturn x) = ⊥

-- the request of a need
abbrev pub IsFor : Need → Args → Type 0
IsFor First x = IsReturn x
IsFor (Get tries) x = IsGet x
IsFor (Commit timed) x = IsCommit x
IsFor (Report timed) x = IsReturn x
IsFor (Close o report) x = IsReturn x

abbrev pub AsksFor : Need → Option Request → Type 0
AsksFor n None = ⊥
AsksFor n (Some r) = IsFor n r.args

-- a phase that works with the drives has its grant
abbrev pub Working : List Held → Option Request → CallOp → Phase → List Met → Type 0
Working hs out op p ms = ReturnsOnly out × (h : Held) × (held_of hs (file_of op) ≡ Some h) × GoodPhase h op p ms

abbrev pub PhaseTraced : List Held → Option Request → CallOp → Phase → List Met → Type 0
PhaseTraced hs out op Starts ms = ReturnsOnly out × Started hs op ms
PhaseTraced hs out op (Needs n) ms = ReturnsOnly out × NeedsGood hs op n ms
PhaseTraced hs out op (Waits n) ms = AsksFor n out × WaitsGood hs op n ms
PhaseTraced hs out op (Reads io) ms = Working hs out op (Reads io) ms
PhaseTraced hs out op (Probes io) ms = Working hs out op (Probes io) ms
PhaseTraced hs out op (Gathers io) ms = Working hs out op (Gathers io) ms
PhaseTraced hs out op (Scatters io queue) ms = Working hs out op (Scatters io queue) ms

abbrev pub CallTraced : List Held → Option Request → Option Call → List Met → Type 0
CallTraced hs out None ms = ReturnsOnly out
CallTraced hs out (Some call) ms = PhaseTraced hs out call.op call.phase ms

abbrev pub IsTraced : Client → List Met → Type 0
IsTraced c ms = CallTraced c.held c.outstanding c.call ms

-- ---- a client in the middle of a step, which began with these grants, is about this call, and has met all this

module _ (before : List Held) (mine : Option CallOp) (ms : List Met) where
  -- a call that begins does so under the grant of the step
  abbrev pub Fresh : List Held → CallOp → Phase → Type 0
  Fresh hs op Starts = grant_under before op ms ≡ held_of hs (file_of op)
  Fresh hs op p = Unit {0}

  abbrev pub DoneCall : List Held → Option Request → Option Call → Type 0
  DoneCall hs out None = ReturnsOnly out
  DoneCall hs out (Some call) =
      (mine ≡ Some call.op) × PhaseTraced hs out call.op call.phase ms × Fresh hs call.op call.phase

  abbrev pub Told : Option Outcome → Type 0
  Told None = Unit {0}
  Told (Some o) = (op : CallOp) × (mine ≡ Some op) × EndsSo (grant_under before op ms) op ms o

  pub record GoodDone (d : Done) : Type 0 where
    pub call : DoneCall d.client.held d.client.outstanding d.client.call
    pub outcome : Told d.outcome

  pub record GoodStep (s : Step) : Type 0 where
    pub client : IsTraced s.client ms
    pub outcome : Told s.outcome

  pub either_done : (b : Bool) (d e : Done) → (b ≡ true → GoodDone d) → (b ≡ false → GoodDone e)
      → GoodDone (if b then d else e)
  either_done true d e x y = x refl
  either_done false d e x y = y refl

  -- ---- what becomes of the call

  need_traced : (hs : List Held) (op : CallOp) (n : Need) → HasGrant hs op → GoodNeed op n ms → NeedsGood hs op n ms
  need_traced hs op First k x = absurd x
  need_traced hs op (Get tries) k x = absurd x
  need_traced hs op (Commit timed) k x = (k, x)
  need_traced hs op (Report timed) k x = (k, x)
  need_traced hs op (Close o report) k x = (k, x)

  phase_traced : (hs : List Held) (out : Option Request) (op : CallOp) (p : Phase) (k : Held)
      → held_of hs (file_of op) ≡ Some k → ReturnsOnly out → GoodPhase k op p ms
      → PhaseTraced hs out op p ms × Fresh hs op p
  phase_traced hs out op Starts k e r x = absurd x
  phase_traced hs out op (Needs n) k e r x = ((r, need_traced hs op n (k, e) x), tt)
  phase_traced hs out op (Waits n) k e r x = absurd x
  phase_traced hs out op (Reads io) k e r x = ((r, k, e, x), tt)
  phase_traced hs out op (Probes io) k e r x = ((r, k, e, x), tt)
  phase_traced hs out op (Gathers io) k e r x = ((r, k, e, x), tt)
  phase_traced hs out op (Scatters io queue) k e r x = ((r, k, e, x), tt)

  pub over_good : (d : Done) (op : CallOp) (o : Outcome) → mine ≡ Some op → ReturnsOnly d.client.outstanding
      → EndsSo (grant_under before op ms) op ms o → GoodDone (over d o)
  over_good d op o is r e = record { call = r; outcome = (op, is, e) }

  pub by_turn_good : (d : Done) (op : CallOp) (h k : Held) (t : Turn) → mine ≡ Some op
      → grant_under before op ms ≡ Some h → held_of d.client.held (file_of op) ≡ Some k
      → ReturnsOnly d.client.outstanding → GoodTurn h k op t ms → Told d.outcome → GoodDone (by_turn d op t)
  unfolding GoodTurn
  by_turn_good d op h k (Goes p) is under e r x o =
      let t = phase_traced d.client.held d.client.outstanding op p k e r x in
      record { call = (is, t.0, t.1); outcome = o }
  by_turn_good d op h k (Ends u) is under e r x o =
      over_good d op u is r (subst (λ (g : Option Held). EndsSo g op ms u) (sym under) x)
  by_turn_good d op h k (Forgets u) is under e r x o =
      record { call = r; outcome = (op, is, subst (λ (g : Option Held). EndsSo g op ms u) (sym under) x) }

  pub moved_good : (d : Done) (op : CallOp) (h : Held) (m : Moved) → mine ≡ Some op → grant_under before op ms ≡ Some h
      → held_of d.client.held (file_of op) ≡ Some h → ReturnsOnly d.client.outstanding → GoodMoved h op m ms
      → Told d.outcome → GoodDone (moved d op m)
  moved_good d op h m is under e r g o =
      let found : held_of (put_held d.client.held m.held) (file_of op) ≡ Some m.held =
      put_at d.client.held m.held (file_of op) (g.file ∙ held_file d.client.held (file_of op) h e) in
      by_turn_good (record (with_held d m.held) { commands = m.sent }) op h m.held m.turn is under found r g.turn o

  -- ---- a call begins

  starts_with_good : (d : Done) (op : CallOp) (n : Need) (o : Option Request) → d.client.outstanding ≡ o → mine ≡ Some op
      → NeedsGood d.client.held op n ms → GoodDone d → GoodDone (starts_with d op n o)
  starts_with_good d op n None e is x g =
      record { call = (is, (subst ReturnsOnly (sym e) tt, x), tt); outcome = g.outcome }
  starts_with_good d op n (Some r) e is x g = g

  same_held : (h k : Held) → Some h ≡ Some k → h ≡ k
  same_held h k e = cc e

  starts_under_good : (d : Done) (op : CallOp) (o : Option Held) → held_of d.client.held (file_of op) ≡ o → mine ≡ Some op
      → ReturnsOnly d.client.outstanding → Started d.client.held op ms
      → grant_under before op ms ≡ held_of d.client.held (file_of op) → GoodDone d → GoodDone (starts_under d op o)
  starts_under_good d op None e is r s under g =
      starts_with_good d op (Get 0) _ refl is
      (record {
        works = s.works;
        quiet = s.quiet;
        count = elim s.next [ inl none ↦ none | inr k ↦ absurd (cc (sym k.1 ∙ e)) ];
        less = omega arith;
        none = e;
      }) g
  starts_under_good d op (Some h) e is r s under g =
      either_done (covers h op) _ _
      (λ yes. moved_good d op h (begins h op) is (under ∙ e) e r (begins_good h op ms s.works s.says s.quiet) g.outcome)
      (λ no_. starts_with_good d op First _ refl is (
        (h, e),
        record {
          works = s.works;
          quiet = s.quiet;
          count = elim s.next [
            | inl none ↦ none
            | inr k ↦ absurd (cc (sym k.2 ∙ ap (λ (x : Held). covers x op) (same_held k.0 h (sym k.1 ∙ e)) ∙ no_))
          ];
        },
      ) g)

  starts_at_good : (d : Done) (op : CallOp) (p : Phase) → mine ≡ Some op
      → PhaseTraced d.client.held d.client.outstanding op p ms → Fresh d.client.held op p → GoodDone d
      → GoodDone (starts_at d op p)
  starts_at_good d op Starts is t f g = starts_under_good d op _ refl is t.0 t.1 f g
  starts_at_good d op (Needs n) is t f g = g
  starts_at_good d op (Waits n) is t f g = g
  starts_at_good d op (Reads io) is t f g = g
  starts_at_good d op (Probes io) is t f g = g
  starts_at_good d op (Gathers io) is t f g = g
  starts_at_good d op (Scatters io queue) is t f g = g

  starts_call_good : (d : Done) (o : Option Call) → DoneCall d.client.held d.client.outstanding o → GoodDone d
      → GoodDone (starts_call d o)
  starts_call_good d None x g = g
  starts_call_good d (Some call) x g = starts_at_good d call.op call.phase x.0 x.1 x.2 g

  begun_good : (d : Done) → GoodDone d → GoodDone (begun d)
  unfolding begun
  begun_good d g = starts_call_good d d.client.call g.call g

  -- ---- a request goes out

  is_for : (h : Held) (op : CallOp) (n : Need) → IsFor n (args_of h op n)
  unfolding args_of
  is_for h op First = tt
  is_for h op (Get tries) = tt
  is_for h op (Commit timed) = tt
  is_for h op (Report timed) = tt
  is_for h op (Close o report) = tt

  abbrev IsNeeding : Done → CallOp → Need → Type 0
  IsNeeding d op n = d.client.call ≡ Some (record { op = op; phase = Needs n })

  needs_at : (d : Done) (op : CallOp) (n : Need) → IsNeeding d op n → GoodDone d
      → (mine ≡ Some op) × NeedsGood d.client.held op n ms
  needs_at d op n is g =
      let x = subst (DoneCall d.client.held d.client.outstanding) is g.call in (x.0, x.1.1)

  asked_with : (d : Done) (op : CallOp) (n : Need) (h : Held) → NeedsGood d.client.held op n ms
      → WaitsGood (held_after d.client.held (file_of op) (args_of h op n)) op n ms
  unfolding args_of
  asked_with d op First h x = x.1
  asked_with d op (Get tries) h x = x
  asked_with d op (Commit timed) h x = x
  asked_with d op (Report timed) h x = x.1
  asked_with d op (Close o report) h x = x.1

  -- without a grant only a layout is needed
  asks_none : (d : Done) (op : CallOp) (n : Need) → held_of d.client.held (file_of op) ≡ None → mine ≡ Some op
      → NeedsGood d.client.held op n ms → GoodDone d → GoodDone (asks_under d op n None)
  unfolding requests
  asks_none d op (Get tries) none is x g = record { call = (is, (tt, x), tt); outcome = g.outcome }
  asks_none d op First none is x g = absurd (cc (sym x.0.1 ∙ none))
  asks_none d op (Commit timed) none is x g = absurd (cc (sym x.0.1 ∙ none))
  asks_none d op (Report timed) none is x g = absurd (cc (sym x.0.1 ∙ none))
  asks_none d op (Close o report) none is x g = absurd (cc (sym x.0.1 ∙ none))

  asks_under_good : (d : Done) (op : CallOp) (n : Need) (o : Option Held) → held_of d.client.held (file_of op) ≡ o
      → mine ≡ Some op → NeedsGood d.client.held op n ms → GoodDone d → GoodDone (asks_under d op n o)
  unfolding requests
  asks_under_good d op n None e is x g = asks_none d op n e is x g
  asks_under_good d op n (Some h) e is x g =
      record { call = (is, (is_for h op n, asked_with d op n h x), tt); outcome = g.outcome }

  returns_good : (d : Done) (o : Option Due) → d.client.call ≡ None → GoodDone d → GoodDone (returns d o)
  unfolding requests
  returns_good d None e g = record { call = g.call; outcome = g.outcome }
  returns_good d (Some u) e g = record {
    call = rw e tt;
    outcome = g.outcome;
  }

  -- ---- to the end of the step

  dropped : (hs : List Held) (out : Option Request) (o : Option Call) → DoneCall hs out o → CallTraced hs out o ms
  dropped hs out None x = x
  dropped hs out (Some call) x = x.1

  pub finished_good : (d : Done) → GoodDone d → GoodStep (finished d)
  unfolding finished
  finished_good d g =
      let b : GoodDone (begun d) = begun_good d g in
      let p : GoodDone (progressed (begun d)) = each_progress (begun d) GoodDone (record {
        waits = λ r out. b;
        works = λ call is out. b;
        spent = λ none out z. b;
        asks = λ op n h is out held. let x = needs_at (begun d) op n is b in asks_under_good (begun d) op n h held x.0 x.1 b;
        gives_back = λ u none out left is. returns_good (begun d) u none b;
      }) in
      record {
        client = dropped _ _ (progressed (begun d)).client.call p.call;
        outcome = p.outcome;
      }
