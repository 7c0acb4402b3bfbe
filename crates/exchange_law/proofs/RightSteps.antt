-- Whatever comes to a client, an answered read has the bytes of all data that agree with the READs that its call took.
use Rattle.std.proofs.Common.{◌≡◌, ℕ, ◌==◌, Bool, true, false, List, [], ◌∷◌, refl, sym, subst, ◌∙◌}
use Rattle.std.specs.Prelude.{if◌then◌else◌, is_some, Option, Some, None, Ok, Err}
use Rattle.data_map.specs.Check.{IsChecked}
use Rattle.exchange_law.specs.ClientState.{Client, Call, CallOp, CallErr, Busy, BadRange, SlotSpent, Held, Due, Awaited, TimedOut, Need, First, Get, Commit, Report, Close, Phase, Starts, Needs, Waits, Reads, Probes, Gathers, Scatters, Outcome, WriteOk, Turn, Goes, Ends, Forgets, Moved, Done, Answer, Recall, Reply, Column}
use Rattle.client_rules.specs.Calls.{file_of, span_of}
use Rattle.client_rules.specs.Grants.{held_of, put_held}
use Rattle.client_rules.specs.Requests.{grant_in, get_args, args_of, return_args}
use Rattle.client_rules.specs.Results.{status_of}
use Rattle.client_rules.specs.Io.{awaited_in}
use Rattle.client_rules.specs.Replies.{replied, timed_out}
use Rattle.client_rules.specs.Answers.{refused_with, not_granted, on_commit}
use Rattle.client_rules.specs.Going.{quiet, phased, over, with_held, by_turn, moved, begins, requests, asks_under, returns}
use Rattle.client_rules.specs.Messages.{Step, still, finished, on_call, no_match, obeys, recalled, reply_under, reply_call, Taken, TakesAnswer, TakesReply, TakesRecall, awaited_of, takes, by_taken, hears}
use Rattle.client_rules.specs.Steps.{timeout_under, timeout_call, times_out, is_bad_range, is_spent, writes_nothing, starts, calls, all_due, leaves, new_client}
use Rattle.client_rules.specs.History.{Input, Calls, Hears, TimesOut, Leaves, Resends, unless_refused, step, state_after}
use Rattle.client_rules.specs.Laws.{with_reply, kept_by, read_after, read_by, AreApart}
use Rattle.exchange_law.specs.ClientAnswers.{IsRight, ReadsAreRight}
use Rattle.client_rules.proofs.TakenMaps.{taken_checked}
use Rattle.client_rules.proofs.Apart.{IsIn}
use Rattle.client_rules.proofs.ReadMoves.{FitsOutcome, weaker, GoodNeed}
use Rattle.client_rules.proofs.HeldGrants.{AreChecked, put_checked, without_checked, after_checked, held_checked, held_file, put_at}
use Rattle.client_rules.proofs.ReadSteps.{Fits, Refuses, refused_with_refuses, report_fits, any_fits, Fair, takes_fair, none_pending, fits_answer}
use Rattle.exchange_law.proofs.RightMoves.{GoodPhase, Follows, GoodTurn, GoodMoved, replied_good, timed_good, begins_good, on_commit_good}
use Rattle.history_law.specs.Turns.{IsBeginning, IsFirstNeed, IsWaiting, FinishCases}
use Rattle.history_law.proofs.Turns.{each_finish, each_answer}

-- ---- held grants

-- ---- a client between steps

-- a phase that reads has its grant
abbrev GoodAt : List Held → CallOp → Phase → List Column → Type 0
GoodAt hs op Starts got = got ≡ []
GoodAt hs op (Needs n) got = GoodNeed n got
GoodAt hs op (Waits n) got = GoodNeed n got
GoodAt hs op (Reads io) got = (h : Held) × (held_of hs (file_of op) ≡ Some h) × GoodPhase h op (Reads io) got
GoodAt hs op (Probes io) got = (h : Held) × (held_of hs (file_of op) ≡ Some h) × GoodPhase h op (Probes io) got
GoodAt hs op (Gathers io) got = Unit {0}
GoodAt hs op (Scatters io queue) got = AreApart io.awaited

abbrev GoodCall : List Held → Option Call → List Column → Type 0
GoodCall hs None got = Unit {0}
GoodCall hs (Some call) got = GoodAt hs call.op call.phase got

record IsGood (c : Client) (got : List Column) : Type 0 where
  checked : AreChecked c.held
  call : GoodCall c.held c.call got

record GoodDone (Fit : List ℕ → Type 0) (d : Done) (got : List Column) : Type 0 where
  checked : AreChecked d.client.held
  call : GoodCall d.client.held d.client.call got
  outcome : Fits Fit d.outcome

either_done : (Fit : List ℕ → Type 0) (got : List Column) (b : Bool) (d e : Done) → GoodDone Fit d got → GoodDone Fit e got →
    GoodDone Fit (if b then d else e) got
either_done Fit got true d e x y = x
either_done Fit got false d e x y = y

quiet_good : (Fit : List ℕ → Type 0) (c : Client) (got : List Column) → AreChecked c.held → GoodCall c.held c.call got →
    GoodDone Fit (quiet c) got
quiet_good Fit c got x y = record { checked = x; call = y; outcome = tt }

at_phase : (hs : List Held) (op : CallOp) (p : Phase) (got : List Column) (k : Held) → held_of hs (file_of op) ≡ Some k →
    GoodPhase k op p got → GoodAt hs op p got
at_phase hs op Starts got k e x = x
at_phase hs op (Needs n) got k e x = x
at_phase hs op (Waits n) got k e x = x
at_phase hs op (Reads io) got k e x = (k, e, x)
at_phase hs op (Probes io) got k e x = (k, e, x)
at_phase hs op (Gathers io) got k e x = tt
at_phase hs op (Scatters io queue) got k e x = x

-- the phase under the grant that is held
in_phase : (hs : List Held) (op : CallOp) (p : Phase) (got : List Column) (h : Held) → held_of hs (file_of op) ≡ Some h →
    GoodAt hs op p got → GoodPhase h op p got
in_phase hs op Starts got h e x = x
in_phase hs op (Needs n) got h e x = x
in_phase hs op (Waits n) got h e x = x
in_phase hs op (Reads io) got h e x = let same : x.0 ≡ h = cc (sym x.1 ∙ e) in rw same at x.2
in_phase hs op (Probes io) got h e x = let same : x.0 ≡ h = cc (sym x.1 ∙ e) in rw same at x.2
in_phase hs op (Gathers io) got h e x = tt
in_phase hs op (Scatters io queue) got h e x = x

by_turn_good : (Fit : List ℕ → Type 0) (d : Done) (op : CallOp) (h k : Held) (got : List Column) (t : Turn) →
    AreChecked d.client.held →
    held_of d.client.held (file_of op) ≡ Some k → GoodTurn h k op t got →
    ((bytes : List ℕ) → Follows h op got bytes → Fit bytes) → Fits Fit d.outcome → GoodDone Fit (by_turn d op t) got
unfolding GoodTurn
by_turn_good Fit d op h k got (Goes p) x e g f o =
    record { checked = x; call = at_phase d.client.held op p got k e g; outcome = o }
by_turn_good Fit d op h k got (Ends u) x e g f o =
    record { checked = x; call = tt; outcome = weaker (Follows h op got) Fit f u g }
by_turn_good Fit d op h k got (Forgets u) x e g f o =
    record {
      checked = without_checked d.client.held (file_of op) x;
      call = tt;
      outcome = weaker (λ bytes. ⊥) Fit (λ bytes. λ z. absurd z) u g;
    }

moved_good : (Fit : List ℕ → Type 0) (d : Done) (op : CallOp) (h : Held) (m : Moved) (got : List Column) →
    AreChecked d.client.held →
    held_of d.client.held (file_of op) ≡ Some h → GoodMoved h op m got → ((bytes : List ℕ) → Follows h op got bytes → Fit bytes) →
    Fits Fit d.outcome → GoodDone Fit (moved d op m) got
moved_good Fit d op h m got x e g f o =
    let ch : IsChecked h.map = held_checked d.client.held (file_of op) h x e in
    let there : m.held.file ≡ file_of op = g.file ∙ held_file d.client.held (file_of op) h e in
    let found : held_of (put_held d.client.held m.held) (file_of op) ≡ Some m.held =
    put_at d.client.held m.held (file_of op) there in
    by_turn_good Fit (record (with_held d m.held) { commands = m.sent }) op h m.held got m.turn
    (put_checked d.client.held m.held x (rw (sym g.map) at ch)) found g.turn f o

-- ---- what follows in a step

asks_under_good : (Fit : List ℕ → Type 0) (d : Done) (op : CallOp) (n : Need) (o : Option Held) (got : List Column) →
    GoodNeed n got → GoodDone Fit d got → GoodDone Fit (asks_under d op n o) got
unfolding requests
asks_under_good Fit d op n None got w g =
    record { checked = after_checked d.client.held (file_of op) (get_args op) g.checked; call = w; outcome = g.outcome }
asks_under_good Fit d op n (Some h) got w g =
    record { checked = after_checked d.client.held (file_of op) (args_of h op n) g.checked; call = w; outcome = g.outcome }

returns_good : (Fit : List ℕ → Type 0) (d : Done) (o : Option Due) (got : List Column) → d.client.call ≡ None →
    GoodDone Fit d got → GoodDone Fit (returns d o) got
unfolding requests
returns_good Fit d None got e g = record { checked = g.checked; call = g.call; outcome = g.outcome }
returns_good Fit d (Some u) got e g =
    record
    { checked = after_checked d.client.held u.file (return_args u.number []) g.checked; call = rw e tt; outcome = g.outcome }

-- a call begins, or a first request goes out, only if nothing was read
first_need : (op : CallOp) (n : Need) (o : Option Held) → IsFirstNeed op n o → (got : List Column) → got ≡ [] → GoodNeed n got
first_need op First o first got none = none
first_need op (Get tries) o first got none = none
first_need op (Commit timed) o first got none = absurd first
first_need op (Report timed) o first got none = absurd first
first_need op (Close u report) o first got none = absurd first

nothing_read : (Fit : List ℕ → Type 0) (d : Done) (op : CallOp) (got : List Column) → GoodDone Fit d got →
    IsBeginning d.client op → got ≡ []
nothing_read Fit d op got g is = subst (λ (o : Option Call). GoodCall d.client.held o got) is g.call

begins_done : (Fit : List ℕ → Type 0) (d : Done) (op : CallOp) (h : Held) (got : List Column) → got ≡ [] →
    held_of d.client.held (file_of op) ≡ Some h → GoodDone Fit d got → GoodDone Fit (moved d op (begins h op)) got
begins_done Fit d op h got none e g =
    rw none (moved_good Fit d op h (begins h op) [] g.checked e
    (begins_good h op (held_checked d.client.held (file_of op) h g.checked e)) (λ bytes. λ x. absurd (x.0 refl)) g.outcome)

kept : (Fit : List ℕ → Type 0) (got : List Column) → FinishCases (λ d. GoodDone Fit d got)
kept Fit got = record {
  needs = λ d op n g is out first. record {
    checked = g.checked;
    call = first_need op n (held_of d.client.held (file_of op)) first got (nothing_read Fit d op got g is);
    outcome = g.outcome;
  };
  begun = λ d op h g is held covered. begins_done Fit d op h got (nothing_read Fit d op got g is) held g;
  asks = λ d op n h g is out held.
      asks_under_good Fit d op n h got (subst (λ (o : Option Call). GoodCall d.client.held o got) is g.call) g;
  gives_back = λ d u g none out. returns_good Fit d u got none g;
}

-- what a step leaves
record GoodStep (Fit : List ℕ → Type 0) (s : Step) (got : List Column) : Type 0 where
  client : IsGood s.client got
  outcome : Fits Fit s.outcome

finished_good : (Fit : List ℕ → Type 0) (d : Done) (got : List Column) → GoodDone Fit d got → GoodStep Fit (finished d) got
unfolding finished
finished_good Fit d got g =
    let e = each_finish (λ x. GoodDone Fit x got) (kept Fit got) d g in
    record { client = record { checked = e.checked; call = e.call }; outcome = e.outcome }

still_good : (Fit : List ℕ → Type 0) (c : Client) (got : List Column) → IsGood c got → GoodStep Fit (still c) got
still_good Fit c got g = record { client = g; outcome = tt }

-- ---- answers

phased_good : (Fit : List ℕ → Type 0) (d : Done) (op : CallOp) (p : Phase) (got : List Column) → GoodAt d.client.held op p got →
    GoodDone Fit d got → GoodDone Fit (phased d op p) got
phased_good Fit d op p got w g = record { checked = g.checked; call = w; outcome = g.outcome }

over_good : (Fit : List ℕ → Type 0) (d : Done) (o : Outcome) (got : List Column) → FitsOutcome Fit o → GoodDone Fit d got →
    GoodDone Fit (over d o) got
over_good Fit d o got w g = record { checked = g.checked; call = tt; outcome = w }

turn_good : (Fit : List ℕ → Type 0) (d : Done) (op : CallOp) (t : Turn) (got : List Column) → got ≡ [] → Refuses t →
    GoodDone Fit d got → GoodDone Fit (by_turn d op t) got
turn_good Fit d op (Goes (Needs (Get tries))) got e x g = record { checked = g.checked; call = e; outcome = g.outcome }
turn_good Fit d op (Ends o) got e x g = over_good Fit d o got (weaker (λ bytes. ⊥) Fit (λ bytes. λ z. absurd z) o x) g
turn_good Fit d op t got e x g = absurd x

not_granted_good : (Fit : List ℕ → Type 0) (d : Done) (op : CallOp) (a : Answer) (tries : ℕ) (got : List Column) → got ≡ [] →
    GoodDone Fit d got → GoodDone Fit (by_turn d op (not_granted a tries)) got
unfolding not_granted
not_granted_good Fit d op a tries got e g =
    turn_good Fit d op (refused_with (status_of a.results) a.detail tries) got e
    (refused_with_refuses (status_of a.results) a.detail tries) g

commit_good : (Fit : List ℕ → Type 0) (d : Done) (op : CallOp) (a : Answer) (timed : List TimedOut) (h : Held)
    (got : List Column) → held_of d.client.held (file_of op) ≡ Some h →
    GoodDone Fit d got → GoodDone Fit (moved d op (on_commit h op a timed)) got
commit_good Fit d op a timed h got e g =
    let x =
    moved_good Fit d op h (on_commit h op a timed) [] g.checked e (on_commit_good h op a timed [])
    (λ bytes. λ z. absurd (z.0 refl)) g.outcome in
    let y =
    moved_good (λ bytes. Unit {0}) d op h (on_commit h op a timed) got g.checked e (on_commit_good h op a timed got)
    (λ bytes. λ z. tt) (any_fits d.outcome) in
    record { checked = x.checked; call = y.call; outcome = x.outcome }

-- what a call that waits relies on
waits_good : (Fit : List ℕ → Type 0) (d : Done) (op : CallOp) (n : Need) (got : List Column) → GoodDone Fit d got →
    IsWaiting d.client op n → GoodNeed n got
waits_good Fit d op n got g is = subst (λ (o : Option Call). GoodCall d.client.held o got) is g.call

answered_good : (Fit : List ℕ → Type 0) (d : Done) (a : Answer) (got : List Column) → GoodDone Fit d got →
    GoodDone Fit (on_call d d.client.call a) got
answered_good Fit d a got g =
    each_answer d a (λ x. GoodDone Fit x got) (record {
      stays = g;
      returned = λ op is. phased_good Fit d op Starts got (waits_good Fit d op First got g is) g;
      granted = λ op tries h is took. record {
        checked = put_checked d.client.held h g.checked (taken_checked a op h took);
        call = waits_good Fit d op (Get tries) got g is;
        outcome = g.outcome;
      };
      unusable = λ op tries w is took. over_good Fit d _ got tt g;
      refused = λ op tries is. not_granted_good Fit d op a tries got (waits_good Fit d op (Get tries) got g is) g;
      committed = λ op timed h is held. commit_good Fit d op a timed h got held g;
      reported = λ op timed is. over_good Fit d _ got (report_fits Fit op a timed) g;
      closed = λ op o report is.
          over_good Fit d o got
          (weaker (λ bytes. ⊥) Fit (λ bytes. λ z. absurd z) o (waits_good Fit d op (Close o report) got g is)) g;
    })

-- ---- recalls

recalled_good : (Fit : List ℕ → Type 0) (c : Client) (r : Recall) (o : Option Held) (got : List Column) → IsGood c got →
    GoodDone Fit (recalled c r o) got
recalled_good Fit c r None got g = record { checked = g.checked; call = g.call; outcome = tt }
recalled_good Fit c r (Some h) got g =
    either_done Fit got (h.number == grant_in r.args.stateid) (obeys c r) (no_match c r)
    (record { checked = g.checked; call = g.call; outcome = tt }) (record { checked = g.checked; call = g.call; outcome = tt })

-- ---- replies

-- without its grant no call reads
without_grant : (hs : List Held) (op : CallOp) (p : Phase) (a : Awaited) (got more : List Column) →
    held_of hs (file_of op) ≡ None → IsIn a (awaited_in p) → GoodAt hs op p got → GoodAt hs op p more
without_grant hs op Starts a got more e i x = absurd i
without_grant hs op (Needs n) a got more e i x = absurd i
without_grant hs op (Waits n) a got more e i x = absurd i
without_grant hs op (Reads io) a got more e i x = let same : Some x.0 ≡ None = sym x.1 ∙ e in absurd (cc same)
without_grant hs op (Probes io) a got more e i x = let same : Some x.0 ≡ None = sym x.1 ∙ e in absurd (cc same)
without_grant hs op (Gathers io) a got more e i x = tt
without_grant hs op (Scatters io queue) a got more e i x = x

-- the answer to the pending call's read
answer_of : (c : Client) (call : Call) (h : Held) (got : List Column) (bytes : List ℕ) → c.call ≡ Some call →
    held_of c.held (file_of call.op) ≡ Some h → IsChecked h.map → Follows h call.op got bytes → IsRight c got bytes
answer_of c call h got bytes p e ch f = record { call = call; pending = p; held = h; holds = e; right = f.1 }

reply_under_good : (c : Client) (call : Call) (a : Awaited) (r : Reply) (o : Option Held) (got : List Column) →
    c.call ≡ Some call → held_of c.held (file_of call.op) ≡ o → AreChecked c.held →
    GoodAt c.held call.op call.phase got → IsIn a (awaited_in call.phase) →
    GoodDone (IsRight c (with_reply got (Some (TakesReply a r)))) (reply_under c call a r o)
    (with_reply got (Some (TakesReply a r)))
reply_under_good c call a r None got p e x w i =
    quiet_good _ c _ x (rw p (without_grant c.held call.op call.phase a got (with_reply got (Some (TakesReply a r))) e i w))
reply_under_good c call a r (Some h) got p e x w i =
    moved_good _ (quiet c) call.op h (replied h call.op call.phase a r) (with_reply got (Some (TakesReply a r))) x e
    (replied_good h call.op call.phase a r got (held_checked c.held (file_of call.op) h x e)
    (in_phase c.held call.op call.phase got h e w) i)
    (λ bytes f. answer_of c call h _ bytes p e (held_checked c.held (file_of call.op) h x e) f) tt

reply_call_good : (c : Client) (a : Awaited) (r : Reply) (o : Option Call) (got : List Column) → c.call ≡ o → AreChecked c.held →
    GoodCall c.held o got → IsIn a (awaited_of o) →
    GoodDone (IsRight c (with_reply got (Some (TakesReply a r)))) (reply_call c a r o) (with_reply got (Some (TakesReply a r)))
reply_call_good c a r None got p x w i = absurd i
reply_call_good c a r (Some call) got p x w i = reply_under_good c call a r _ got p refl x w i

-- ---- messages

by_taken_good : (c : Client) (t : Option Taken) (got : List Column) → IsGood c got → Fair c t →
    GoodStep (IsRight c (with_reply got t)) (by_taken c t) (with_reply got t)
by_taken_good c None got g f = still_good _ c got g
by_taken_good c (Some (TakesAnswer a)) got g f =
    finished_good _ _ got
    (answered_good _ (quiet (record c { outstanding = None })) a got
    (quiet_good _ (record c { outstanding = None }) got g.checked g.call))
by_taken_good c (Some (TakesReply a r)) got g f = finished_good _ _ _ (reply_call_good c a r c.call got refl g.checked g.call f)
by_taken_good c (Some (TakesRecall r)) got g f = finished_good _ _ got (recalled_good _ c r _ got g)

-- ---- timeouts

timeout_under_good : (c : Client) (call : Call) (k : ℕ) (o : Option Held) (xs : List Awaited) (got : List Column) →
    c.call ≡ Some call → held_of c.held (file_of call.op) ≡ o → IsGood c got →
    GoodAt c.held call.op call.phase got → GoodStep (IsRight c got) (timeout_under c call k o xs) got
timeout_under_good c call k (Some h) (a ∷ xs) got p e g w =
    finished_good _ _ got (moved_good _ (quiet c) call.op h (timed_out h call.op call.phase k a xs) got g.checked e
    (timed_good h call.op call.phase k a xs got (held_checked c.held (file_of call.op) h g.checked e)
    (in_phase c.held call.op call.phase got h e w))
    (λ bytes f. answer_of c call h got bytes p e (held_checked c.held (file_of call.op) h g.checked e) f) tt)
timeout_under_good c call k None xs got p e g w = still_good _ c got g
timeout_under_good c call k (Some h) [] got p e g w = still_good _ c got g

timeout_call_good : (c : Client) (k : ℕ) (o : Option Call) (got : List Column) → c.call ≡ o → IsGood c got →
    GoodCall c.held o got → GoodStep (IsRight c got) (timeout_call c k o) got
timeout_call_good c k None got p g w = still_good _ c got g
timeout_call_good c k (Some call) got p g w = timeout_under_good c call k _ _ got p refl g w

-- ---- calls

-- a call may begin only where none is pending, and then nothing was read
starts_good : (Fit : List ℕ → Type 0) (c : Client) (op : CallOp) (b : Bool) → AreChecked c.held → IsGood c [] →
    GoodStep Fit
    (if b then record (still c) { outcome = Some (WriteOk 0) } else finished
    (quiet (record c { call = Some (record { op = op; phase = Starts }) }))) []
starts_good Fit c op true x g = record { client = g; outcome = tt }
starts_good Fit c op false x g =
    finished_good Fit _ [] (quiet_good Fit (record c { call = Some (record { op = op; phase = Starts }) }) [] x refl)

-- by the three refusals
refuses : (Fit : List ℕ → Type 0) (c : Client) (got : List Column) (a b d : Bool) (x y z : CallErr) (s : Step) → IsGood c got →
    (a ≡ false → GoodStep Fit s got) →
    GoodStep Fit (unless_refused c (if a then Err x else if b then Err y else if d then Err z else Ok s)) got
refuses Fit c got true b d x y z s v w = still_good Fit c got v
refuses Fit c got false true d x y z s v w = still_good Fit c got v
refuses Fit c got false false true x y z s v w = still_good Fit c got v
refuses Fit c got false false false x y z s v w = w refl

calls_good : (Fit : List ℕ → Type 0) (c : Client) (op : CallOp) (got : List Column) → IsGood c (kept_by c.call got) →
    GoodStep Fit (unless_refused c (calls c op)) (kept_by c.call got)
unfolding calls
calls_good Fit c op got g =
    refuses Fit c (kept_by c.call got) (is_some c.call) (is_bad_range (span_of op)) (is_spent c.next) Busy BadRange SlotSpent
    (starts c op) g
    (λ e. let z = none_pending c.call got e in rw z (starts_good Fit c op (writes_nothing op) g.checked (rw z at g)))

-- ---- any step

kept_good : (hs : List Held) (o : Option Call) (got : List Column) → GoodCall hs o got → GoodCall hs o (kept_by o got)
kept_good hs None got x = tt
kept_good hs (Some call) got x = x

step_good : (c : Client) (got : List Column) (i : Input) → IsGood c got →
    GoodStep (IsRight c (read_after c got i)) (step c i) (read_after c got i)
unfolding hears times_out leaves
step_good c got (Calls op) g = calls_good _ c op got (record { checked = g.checked; call = kept_good c.held c.call got g.call })
step_good c got (Hears from m) g =
    by_taken_good c (takes c from m) (kept_by c.call got)
    (record { checked = g.checked; call = kept_good c.held c.call got g.call }) (takes_fair c from m)
step_good c got (TimesOut k) g =
    let w = kept_good c.held c.call got g.call in
    timeout_call_good c k c.call (kept_by c.call got) refl (record { checked = g.checked; call = w }) w
step_good c got Leaves g =
    finished_good _ _ _ (quiet_good _ (record c { due = all_due c.due c.held }) _ g.checked (kept_good c.held c.call got g.call))
step_good c got Resends g =
    record { client = record { checked = g.checked; call = kept_good c.held c.call got g.call }; outcome = tt }

all_good : (c : Client) (got : List Column) (is : List Input) → IsGood c got → IsGood (state_after c is) (read_by c got is)
all_good c got [] g = g
all_good c got (i ∷ is) g = all_good (step c i).client (read_after c got i) is (step_good c got i g).client

pub reads_are_right : ReadsAreRight
reads_are_right = λ number sequence is i bytes e.
    let c : Client = state_after (new_client number sequence) is in
    let got : List Column = read_by (new_client number sequence) [] is in
    let g : IsGood c got = all_good (new_client number sequence) [] is (record { checked = tt; call = tt }) in
    fits_answer (IsRight c (read_after c got i)) (step c i).outcome bytes e (step_good c got i g).outcome
