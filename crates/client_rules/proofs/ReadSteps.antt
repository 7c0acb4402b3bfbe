-- Whatever comes to a client, a read is answered from the READs whose replies its call took.
use Rattle.std.proofs.Common.{◌≡◌, ℕ, ◌+◌, ◌==◌, Bool, true, false, List, [], ◌∷◌, refl, sym, ◌∙◌}
use Rattle.std.specs.Prelude.{if◌then◌else◌, is_some, find, Option, Some, None, Result, Ok, Err}
use Rattle.osd_lists.specs.declared.node.Node.{Node}
use Rattle.osd_lists.specs.declared.node.Node.TheVariants.{Server as FromServer, Drive as FromDrive, Client as FromClient}
use Rattle.data_map.specs.Check.{IsChecked}
use Rattle.layout_ops.specs.declared.args.Args.TheVariants as args
use Rattle.layout_ops.specs.declared.statuses.TheConstants.{NFS4_OK, NFS4ERR_NOENT, NFS4ERR_LAYOUTTRYLATER, NFS4ERR_RECALLCONFLICT, NFS4ERR_LAYOUTUNAVAILABLE}
use Rattle.client_rules.specs.declared.limits.TheConstants.{NO_COMPONENT}
use Rattle.client_rules.specs.State.{Client, Call, CallOp, CallErr, Busy, BadRange, SlotSpent, Held, Due, Awaited, TimedOut, Need, First, Get, Commit, Report, Close, Phase, Starts, Needs, Waits, Reads, Probes, Gathers, Scatters, Outcome, WriteOk, ReadOk, NoFile, HeldBy, Fencing, Degraded, Spent, Status, Silent, Why, Turn, Goes, Ends, Forgets, Moved, Done, Request, Answer, Recall, Reply, Column}
use Rattle.client_rules.specs.Calls.{file_of, span_of}
use Rattle.client_rules.specs.Grants.{covers, held_of, put_held}
use Rattle.client_rules.specs.Requests.{grant_in, get_args, args_of, return_args}
use Rattle.client_rules.specs.Results.{status_of}
use Rattle.client_rules.specs.Layouts.{taken}
use Rattle.client_rules.specs.Io.{awaited_in}
use Rattle.client_rules.specs.Replies.{answers, replied, timed_out}
use Rattle.client_rules.specs.Answers.{busy, unavailable, refused_with, not_granted, on_commit, is_loss_taken, on_report}
use Rattle.client_rules.specs.Going.{quiet, phased, over, with_held, by_turn, moved, begins, starts_with, starts_under, starts_at, starts_call, begun, requests, asks_under, returns, returns_due, progress_phase, progress_call, progress_free, progressed}
use Rattle.client_rules.specs.Messages.{Message, Replies, Answers, Recalls, Step, still, finished, answered_get, commit_under, on_need, on_phase, on_call, no_match, obeys, recalled, reply_under, reply_call, Taken, TakesAnswer, TakesReply, TakesRecall, answer_taken, is_awaited, reply_taken, awaited_of, takes, by_taken, hears}
use Rattle.client_rules.specs.Steps.{timeout_under, timeout_call, times_out, is_bad_range, is_spent, writes_nothing, starts, calls, all_due, leaves, new_client}
use Rattle.client_rules.specs.Writes.{lowest}
use Rattle.client_rules.specs.History.{Input, Calls, Hears, TimesOut, Leaves, Resends, unless_refused, step, state_after}
use Rattle.client_rules.specs.Laws.{with_reply, kept_by, read_after, read_by, IsAnswer, ReadsTookReplies, AreApart}
use Rattle.client_rules.proofs.TakenMaps.{taken_checked}
use Rattle.client_rules.proofs.Apart.{IsIn}
use Rattle.client_rules.proofs.ReadMoves.{found_in, FitsOutcome, AnswersNone, weaker, GoodNeed, GoodPhase, Follows, GoodTurn, GoodMoved, replied_good, timed_good, begins_good, on_commit_good}
use Rattle.client_rules.proofs.HeldGrants.{AreChecked, put_checked, without_checked, after_checked, held_checked, held_file, put_at}

-- ---- a client between steps

-- a phase that reads has its grant
abbrev pub GoodAt : List Held → CallOp → Phase → List Column → Type 0
GoodAt hs op Starts got = got ≡ []
GoodAt hs op (Needs n) got = GoodNeed n got
GoodAt hs op (Waits n) got = GoodNeed n got
GoodAt hs op (Reads io) got = (h : Held) × (held_of hs (file_of op) ≡ Some h) × GoodPhase h op (Reads io) got
GoodAt hs op (Probes io) got = (h : Held) × (held_of hs (file_of op) ≡ Some h) × GoodPhase h op (Probes io) got
GoodAt hs op (Gathers io) got = Unit {0}
GoodAt hs op (Scatters io queue) got = AreApart io.awaited

abbrev pub GoodCall : List Held → Option Call → List Column → Type 0
GoodCall hs None got = Unit {0}
GoodCall hs (Some call) got = GoodAt hs call.op call.phase got

pub record IsGood (c : Client) (got : List Column) : Type 0 where
  pub checked : AreChecked c.held
  pub call : GoodCall c.held c.call got

abbrev pub Fits : (List ℕ → Type 0) → Option Outcome → Type 0
Fits Fit None = Unit {0}
Fits Fit (Some o) = FitsOutcome Fit o

record GoodDone (Fit : List ℕ → Type 0) (d : Done) (got : List Column) : Type 0 where
  checked : AreChecked d.client.held
  call : GoodCall d.client.held d.client.call got
  outcome : Fits Fit d.outcome

either_done : (Fit : List ℕ → Type 0) (got : List Column) (b : Bool) (d e : Done) → GoodDone Fit d got → GoodDone Fit e got →
    GoodDone Fit (if b then d else e) got
either_done Fit got true d e x y = x
either_done Fit got false d e x y = y

quiet_good : (Fit : List ℕ → Type 0) (c : Client) (got : List Column) → AreChecked c.held → GoodCall c.held c.call got →
    GoodDone Fit (quiet c) got
quiet_good Fit c got x y = record { checked = x; call = y; outcome = tt }

at_phase : (hs : List Held) (op : CallOp) (p : Phase) (got : List Column) (k : Held) → held_of hs (file_of op) ≡ Some k →
    GoodPhase k op p got → GoodAt hs op p got
at_phase hs op Starts got k e x = x
at_phase hs op (Needs n) got k e x = x
at_phase hs op (Waits n) got k e x = x
at_phase hs op (Reads io) got k e x = (k, e, x)
at_phase hs op (Probes io) got k e x = (k, e, x)
at_phase hs op (Gathers io) got k e x = tt
at_phase hs op (Scatters io queue) got k e x = x

-- the phase under the grant that is held
in_phase : (hs : List Held) (op : CallOp) (p : Phase) (got : List Column) (h : Held) → held_of hs (file_of op) ≡ Some h →
    GoodAt hs op p got → GoodPhase h op p got
in_phase hs op Starts got h e x = x
in_phase hs op (Needs n) got h e x = x
in_phase hs op (Waits n) got h e x = x
in_phase hs op (Reads io) got h e x = let same : x.0 ≡ h = cc (sym x.1 ∙ e) in rw same at x.2
in_phase hs op (Probes io) got h e x = let same : x.0 ≡ h = cc (sym x.1 ∙ e) in rw same at x.2
in_phase hs op (Gathers io) got h e x = tt
in_phase hs op (Scatters io queue) got h e x = x

by_turn_good : (Fit : List ℕ → Type 0) (d : Done) (op : CallOp) (h k : Held) (got : List Column) (t : Turn) →
    AreChecked d.client.held →
    held_of d.client.held (file_of op) ≡ Some k → GoodTurn h k op t got →
    ((bytes : List ℕ) → Follows h op got bytes → Fit bytes) → Fits Fit d.outcome → GoodDone Fit (by_turn d op t) got
unfolding GoodTurn
by_turn_good Fit d op h k got (Goes p) x e g f o =
    record { checked = x; call = at_phase d.client.held op p got k e g; outcome = o }
by_turn_good Fit d op h k got (Ends u) x e g f o =
    record { checked = x; call = tt; outcome = weaker (Follows h op got) Fit f u g }
by_turn_good Fit d op h k got (Forgets u) x e g f o =
    record {
      checked = without_checked d.client.held (file_of op) x;
      call = tt;
      outcome =
          weaker (λ bytes. ⊥) Fit (λ bytes. λ z. absurd z) u g;
    }

moved_good : (Fit : List ℕ → Type 0) (d : Done) (op : CallOp) (h : Held) (m : Moved) (got : List Column) →
    AreChecked d.client.held →
    held_of d.client.held (file_of op) ≡ Some h → GoodMoved h op m got → ((bytes : List ℕ) → Follows h op got bytes → Fit bytes) →
    Fits Fit d.outcome → GoodDone Fit (moved d op m) got
moved_good Fit d op h m got x e g f o =
    let ch : IsChecked h.map = held_checked d.client.held (file_of op) h x e in
    let there : m.held.file ≡ file_of op = g.file ∙ held_file d.client.held (file_of op) h e in
    let found : held_of (put_held d.client.held m.held) (file_of op) ≡ Some m.held =
    put_at d.client.held m.held (file_of op) there in
    by_turn_good Fit (record (with_held d m.held) { commands = m.sent }) op h m.held got m.turn
    (put_checked d.client.held m.held x (rw (sym g.map) at ch)) found g.turn f o

-- ---- what follows in a step

starts_with_good : (Fit : List ℕ → Type 0) (d : Done) (op : CallOp) (n : Need) (o : Option Request) (got : List Column) →
    GoodDone Fit d got → GoodNeed n got → GoodDone Fit (starts_with d op n o) got
starts_with_good Fit d op n None got g x = record { checked = g.checked; call = x; outcome = g.outcome }
starts_with_good Fit d op n (Some r) got g x = g

starts_under_good : (Fit : List ℕ → Type 0) (d : Done) (op : CallOp) (o : Option Held) → held_of d.client.held (file_of op) ≡ o →
    GoodDone Fit d [] → GoodDone Fit (starts_under d op o) []
starts_under_good Fit d op None e g = starts_with_good Fit d op (Get 0) _ [] g refl
starts_under_good Fit d op (Some h) e g =
    either_done Fit [] (covers h op) (moved d op (begins h op)) (starts_with d op First d.client.outstanding)
    (moved_good Fit d op h (begins h op) [] g.checked e (begins_good h op (held_checked d.client.held (file_of op) h g.checked e))
    (λ bytes. λ x. absurd (x.0 refl)) g.outcome)
    (starts_with_good Fit d op First _ [] g refl)

starts_at_good : (Fit : List ℕ → Type 0) (d : Done) (op : CallOp) (p : Phase) (got : List Column) →
    GoodAt d.client.held op p got → GoodDone Fit d got → GoodDone Fit (starts_at d op p) got
starts_at_good Fit d op Starts got w g = rw w (starts_under_good Fit d op _ refl (rw w at g))
starts_at_good Fit d op (Needs n) got w g = g
starts_at_good Fit d op (Waits n) got w g = g
starts_at_good Fit d op (Reads io) got w g = g
starts_at_good Fit d op (Probes io) got w g = g
starts_at_good Fit d op (Gathers io) got w g = g
starts_at_good Fit d op (Scatters io queue) got w g = g

starts_call_good : (Fit : List ℕ → Type 0) (d : Done) (o : Option Call) (got : List Column) → GoodCall d.client.held o got →
    GoodDone Fit d got → GoodDone Fit (starts_call d o) got
starts_call_good Fit d None got w g = g
starts_call_good Fit d (Some call) got w g = starts_at_good Fit d call.op call.phase got w g

begun_good : (Fit : List ℕ → Type 0) (d : Done) (got : List Column) → GoodDone Fit d got → GoodDone Fit (begun d) got
unfolding begun
begun_good Fit d got g = starts_call_good Fit d d.client.call got g.call g

asks_under_good : (Fit : List ℕ → Type 0) (d : Done) (op : CallOp) (n : Need) (o : Option Held) (got : List Column) →
    GoodNeed n got → GoodDone Fit d got → GoodDone Fit (asks_under d op n o) got
unfolding requests
asks_under_good Fit d op n None got w g =
    record { checked = after_checked d.client.held (file_of op) (get_args op) g.checked; call = w; outcome = g.outcome }
asks_under_good Fit d op n (Some h) got w g =
    record { checked = after_checked d.client.held (file_of op) (args_of h op n) g.checked; call = w; outcome = g.outcome }

returns_good : (Fit : List ℕ → Type 0) (d : Done) (o : Option Due) (got : List Column) → d.client.call ≡ None →
    GoodDone Fit d got → GoodDone Fit (returns d o) got
unfolding requests
returns_good Fit d None got e g = record { checked = g.checked; call = g.call; outcome = g.outcome }
returns_good Fit d (Some u) got e g =
    record {
      checked = after_checked d.client.held u.file (return_args u.number []) g.checked;
      call = rw e tt;
      outcome =
          g.outcome;
    }

returns_due_good : (Fit : List ℕ → Type 0) (d : Done) (got : List Column) → d.client.call ≡ None → GoodDone Fit d got →
    GoodDone Fit (returns_due d) got
unfolding returns_due
returns_due_good Fit d got e g = either_done Fit got _ _ _ g (returns_good Fit d _ got e g)

progress_phase_good : (Fit : List ℕ → Type 0) (d : Done) (op : CallOp) (p : Phase) (got : List Column) →
    GoodAt d.client.held op p got → GoodDone Fit d got → GoodDone Fit (progress_phase d op p) got
progress_phase_good Fit d op (Needs n) got w g = asks_under_good Fit d op n _ got w g
progress_phase_good Fit d op Starts got w g = g
progress_phase_good Fit d op (Waits n) got w g = g
progress_phase_good Fit d op (Reads io) got w g = g
progress_phase_good Fit d op (Probes io) got w g = g
progress_phase_good Fit d op (Gathers io) got w g = g
progress_phase_good Fit d op (Scatters io queue) got w g = g

progress_call_good : (Fit : List ℕ → Type 0) (d : Done) (o : Option Call) (got : List Column) → d.client.call ≡ o →
    GoodDone Fit d got → GoodDone Fit (progress_call d o) got
progress_call_good Fit d None got e g = returns_due_good Fit d got e g
progress_call_good Fit d (Some call) got e g = let w : GoodCall d.client.held (Some call) got = rw e at g.call in
    progress_phase_good Fit d call.op call.phase got w g

progress_free_good : (Fit : List ℕ → Type 0) (d : Done) (o : Option Request) (got : List Column) → GoodDone Fit d got →
    GoodDone Fit (progress_free d o) got
progress_free_good Fit d None got g = progress_call_good Fit d d.client.call got refl g
progress_free_good Fit d (Some r) got g = g

-- what a step leaves
record GoodStep (Fit : List ℕ → Type 0) (s : Step) (got : List Column) : Type 0 where
  client : IsGood s.client got
  outcome : Fits Fit s.outcome

finished_good : (Fit : List ℕ → Type 0) (d : Done) (got : List Column) → GoodDone Fit d got → GoodStep Fit (finished d) got
unfolding finished progressed
finished_good Fit d got g =
    let e = progress_free_good Fit (begun d) (begun d).client.outstanding got (begun_good Fit d got g) in
    record { client = record { checked = e.checked; call = e.call }; outcome = e.outcome }

still_good : (Fit : List ℕ → Type 0) (c : Client) (got : List Column) → IsGood c got → GoodStep Fit (still c) got
still_good Fit c got g = record { client = g; outcome = tt }

-- ---- answers

phased_good : (Fit : List ℕ → Type 0) (d : Done) (op : CallOp) (p : Phase) (got : List Column) → GoodAt d.client.held op p got →
    GoodDone Fit d got → GoodDone Fit (phased d op p) got
phased_good Fit d op p got w g = record { checked = g.checked; call = w; outcome = g.outcome }

over_good : (Fit : List ℕ → Type 0) (d : Done) (o : Outcome) (got : List Column) → FitsOutcome Fit o → GoodDone Fit d got →
    GoodDone Fit (over d o) got
over_good Fit d o got w g = record { checked = g.checked; call = tt; outcome = w }

-- a turn of a call that has read nothing and answers no read
abbrev pub Refuses : Turn → Type 0
Refuses (Goes (Needs (Get tries))) = Unit {0}
Refuses (Ends o) = AnswersNone o
Refuses t = ⊥

pub either_refuses : (b : Bool) (t u : Turn) → Refuses t → Refuses u → Refuses (if b then t else u)
either_refuses true t u x y = x
either_refuses false t u x y = y

pub busy_refuses : (tries : ℕ) (o : Outcome) → AnswersNone o → Refuses (busy tries o)
unfolding busy
busy_refuses tries o x = either_refuses _ (Goes (Needs (Get (tries + 1)))) (Ends o) tt x

pub either_none : (Fit : List ℕ → Type 0) (b : Bool) (o u : Outcome) → FitsOutcome Fit o → FitsOutcome Fit u →
    FitsOutcome Fit (if b then o else u)
either_none Fit true o u x y = x
either_none Fit false o u x y = y

pub refused_with_refuses : (status detail tries : ℕ) → Refuses (refused_with status detail tries)
refused_with_refuses status detail tries =
    either_refuses (status == NFS4ERR_NOENT) (Ends NoFile) _ tt
    (either_refuses (status == NFS4ERR_LAYOUTTRYLATER) (busy tries (HeldBy detail)) _ (busy_refuses tries (HeldBy detail) tt)
    (either_refuses (status == NFS4ERR_RECALLCONFLICT) (busy tries (Fencing detail)) _ (busy_refuses tries (Fencing detail) tt)
    (either_refuses (status == NFS4ERR_LAYOUTUNAVAILABLE) (Ends (unavailable detail)) (Ends (Status status detail))
    (either_none (λ bytes. ⊥) (detail == NO_COMPONENT) Spent (Degraded detail) tt tt) tt)))

turn_good : (Fit : List ℕ → Type 0) (d : Done) (op : CallOp) (t : Turn) (got : List Column) → got ≡ [] → Refuses t →
    GoodDone Fit d got → GoodDone Fit (by_turn d op t) got
turn_good Fit d op (Goes (Needs (Get tries))) got e x g = record { checked = g.checked; call = e; outcome = g.outcome }
turn_good Fit d op (Ends o) got e x g = over_good Fit d o got (weaker (λ bytes. ⊥) Fit (λ bytes. λ z. absurd z) o x) g
turn_good Fit d op t got e x g = absurd x

not_granted_good : (Fit : List ℕ → Type 0) (d : Done) (op : CallOp) (a : Answer) (tries : ℕ) (got : List Column) → got ≡ [] →
    GoodDone Fit d got → GoodDone Fit (by_turn d op (not_granted a tries)) got
unfolding not_granted
not_granted_good Fit d op a tries got e g =
    turn_good Fit d op (refused_with (status_of a.results) a.detail tries) got e
    (refused_with_refuses (status_of a.results) a.detail tries) g

answered_get_good : (Fit : List ℕ → Type 0) (d : Done) (op : CallOp) (r : Result Held Why) (got : List Column) →
    ((h : Held) → r ≡ Ok h → IsChecked h.map) → got ≡ [] → GoodDone Fit d got → GoodDone Fit (answered_get d op r) got
answered_get_good Fit d op (Err w) got ch e g = over_good Fit d _ got tt g
answered_get_good Fit d op (Ok h) got ch e g =
    record { checked = put_checked d.client.held h g.checked (ch h refl); call = e; outcome = g.outcome }

pub report_fits : (Fit : List ℕ → Type 0) (op : CallOp) (a : Answer) (timed : List TimedOut) →
    FitsOutcome Fit (on_report op a timed)
unfolding on_report
report_fits Fit op a timed = either_none Fit (is_loss_taken a) (WriteOk (span_of op).length) (Silent (lowest timed)) tt tt

pub any_fits : (o : Option Outcome) → Fits (λ bytes. Unit {0}) o
any_fits None = tt
any_fits (Some (ReadOk bytes)) = tt
any_fits (Some o) = tt

commit_under_good : (Fit : List ℕ → Type 0) (d : Done) (op : CallOp) (a : Answer) (timed : List TimedOut) (o : Option Held)
    (got : List Column) → held_of d.client.held (file_of op) ≡ o →
    GoodDone Fit d got → GoodDone Fit (commit_under d op a (Commit timed) o) got
commit_under_good Fit d op a timed None got e g = g
commit_under_good Fit d op a timed (Some h) got e g =
    let x = moved_good Fit d op h (on_commit h op a timed) [] g.checked e (on_commit_good h op a timed [])
    (λ bytes. λ z. absurd (z.0 refl)) g.outcome in
    let y = moved_good (λ bytes. Unit {0}) d op h (on_commit h op a timed) got g.checked e (on_commit_good h op a timed got)
    (λ bytes. λ z. tt) (any_fits d.outcome) in
    record { checked = x.checked; call = y.call; outcome = x.outcome }

on_need_good : (Fit : List ℕ → Type 0) (d : Done) (op : CallOp) (n : Need) (a : Answer) (got : List Column) → GoodNeed n got →
    GoodDone Fit d got → GoodDone Fit (on_need d op n a) got
on_need_good Fit d op First a got w g = phased_good Fit d op Starts got w g
on_need_good Fit d op (Get tries) a got w g =
    either_done Fit got (status_of a.results == NFS4_OK) (answered_get d op (taken a op)) (by_turn d op (not_granted a tries))
    (answered_get_good Fit d op (taken a op) got (λ h e. taken_checked a op h e) w g) (not_granted_good Fit d op a tries got w g)
on_need_good Fit d op (Commit timed) a got w g = commit_under_good Fit d op a timed _ got refl g
on_need_good Fit d op (Report timed) a got w g = over_good Fit d _ got (report_fits Fit op a timed) g
on_need_good Fit d op (Close outcome report) a got w g =
    over_good Fit d outcome got (weaker (λ bytes. ⊥) Fit (λ bytes. λ z. absurd z) outcome w) g

on_phase_good : (Fit : List ℕ → Type 0) (d : Done) (op : CallOp) (p : Phase) (a : Answer) (got : List Column) →
    GoodAt d.client.held op p got → GoodDone Fit d got → GoodDone Fit (on_phase d op p a) got
on_phase_good Fit d op (Waits n) a got w g = on_need_good Fit d op n a got w g
on_phase_good Fit d op Starts a got w g = g
on_phase_good Fit d op (Needs n) a got w g = g
on_phase_good Fit d op (Reads io) a got w g = g
on_phase_good Fit d op (Probes io) a got w g = g
on_phase_good Fit d op (Gathers io) a got w g = g
on_phase_good Fit d op (Scatters io queue) a got w g = g

on_call_good : (Fit : List ℕ → Type 0) (d : Done) (o : Option Call) (a : Answer) (got : List Column) →
    GoodCall d.client.held o got → GoodDone Fit d got → GoodDone Fit (on_call d o a) got
on_call_good Fit d None a got w g = g
on_call_good Fit d (Some call) a got w g = on_phase_good Fit d call.op call.phase a got w g

-- ---- recalls

recalled_good : (Fit : List ℕ → Type 0) (c : Client) (r : Recall) (o : Option Held) (got : List Column) → IsGood c got →
    GoodDone Fit (recalled c r o) got
recalled_good Fit c r None got g = record { checked = g.checked; call = g.call; outcome = tt }
recalled_good Fit c r (Some h) got g =
    either_done Fit got (h.number == grant_in r.args.stateid) (obeys c r) (no_match c r)
    (record { checked = g.checked; call = g.call; outcome = tt }) (record { checked = g.checked; call = g.call; outcome = tt })

-- ---- replies

-- without its grant no call reads
without_grant : (hs : List Held) (op : CallOp) (p : Phase) (a : Awaited) (got more : List Column) →
    held_of hs (file_of op) ≡ None → IsIn a (awaited_in p) → GoodAt hs op p got → GoodAt hs op p more
without_grant hs op Starts a got more e i x = absurd i
without_grant hs op (Needs n) a got more e i x = absurd i
without_grant hs op (Waits n) a got more e i x = absurd i
without_grant hs op (Reads io) a got more e i x = let same : Some x.0 ≡ None = sym x.1 ∙ e in absurd (cc same)
without_grant hs op (Probes io) a got more e i x = let same : Some x.0 ≡ None = sym x.1 ∙ e in absurd (cc same)
without_grant hs op (Gathers io) a got more e i x = tt
without_grant hs op (Scatters io queue) a got more e i x = x

-- the answer to the pending call's read
answer_of : (c : Client) (call : Call) (h : Held) (got : List Column) (bytes : List ℕ) → c.call ≡ Some call →
    held_of c.held (file_of call.op) ≡ Some h → IsChecked h.map → Follows h call.op got bytes → IsAnswer c got bytes
answer_of c call h got bytes p e ch f =
    record { call = call; pending = p; held = h; holds = e; checked = ch; some = f.0; out = f.1; answer = f.2 }

reply_under_good : (c : Client) (call : Call) (a : Awaited) (r : Reply) (o : Option Held) (got : List Column) →
    c.call ≡ Some call → held_of c.held (file_of call.op) ≡ o → AreChecked c.held →
    GoodAt c.held call.op call.phase got → IsIn a (awaited_in call.phase) →
    GoodDone (IsAnswer c (with_reply got (Some (TakesReply a r)))) (reply_under c call a r o)
    (with_reply got (Some (TakesReply a r)))
reply_under_good c call a r None got p e x w i =
    quiet_good _ c _ x (rw p (without_grant c.held call.op call.phase a got (with_reply got (Some (TakesReply a r))) e i w))
reply_under_good c call a r (Some h) got p e x w i =
    moved_good _ (quiet c) call.op h (replied h call.op call.phase a r) (with_reply got (Some (TakesReply a r))) x e
    (replied_good h call.op call.phase a r got (in_phase c.held call.op call.phase got h e w) i)
    (λ bytes f. answer_of c call h _ bytes p e (held_checked c.held (file_of call.op) h x e) f) tt

reply_call_good : (c : Client) (a : Awaited) (r : Reply) (o : Option Call) (got : List Column) → c.call ≡ o → AreChecked c.held →
    GoodCall c.held o got → IsIn a (awaited_of o) →
    GoodDone (IsAnswer c (with_reply got (Some (TakesReply a r)))) (reply_call c a r o) (with_reply got (Some (TakesReply a r)))
reply_call_good c a r None got p x w i = absurd i
reply_call_good c a r (Some call) got p x w i = reply_under_good c call a r _ got p refl x w i

-- ---- messages

-- a reply that is taken is to an awaited command
abbrev pub Fair : Client → Option Taken → Type 0
Fair c (Some (TakesReply a r)) = IsIn a (awaited_of c.call)
Fair c t = Unit {0}

pub reply_fair : (c : Client) (p : Awaited → Bool) (r : Reply) (o : Option Awaited) → find p (awaited_of c.call) ≡ o →
    Fair c (reply_taken r o)
reply_fair c p r None e = tt
reply_fair c p r (Some a) e = found_in p (awaited_of c.call) a e

pub either_fair : (c : Client) (b : Bool) (t u : Option Taken) → Fair c t → Fair c u → Fair c (if b then t else u)
either_fair c true t u x y = x
either_fair c false t u x y = y

pub answer_fair : (c : Client) (a : Answer) (o : Option Request) → Fair c (answer_taken c a o)
answer_fair c a None = tt
answer_fair c a (Some r) = either_fair c (is_awaited c a r) (Some (TakesAnswer a)) None tt tt

pub takes_fair : (c : Client) (from : Node) (m : Message) → Fair c (takes c from m)
unfolding takes
takes_fair c (FromDrive drive) (Replies r) = reply_fair c (answers drive r) r _ refl
takes_fair c (FromDrive drive) (Answers a) = tt
takes_fair c (FromDrive drive) (Recalls r) = tt
takes_fair c FromServer (Answers a) = answer_fair c a c.outstanding
takes_fair c FromServer (Recalls r) = either_fair c (r.client == c.number) (Some (TakesRecall r)) None tt tt
takes_fair c FromServer (Replies r) = tt
takes_fair c (FromClient n) (Replies r) = tt
takes_fair c (FromClient n) (Answers a) = tt
takes_fair c (FromClient n) (Recalls r) = tt

by_taken_good : (c : Client) (t : Option Taken) (got : List Column) → IsGood c got → Fair c t →
    GoodStep (IsAnswer c (with_reply got t)) (by_taken c t) (with_reply got t)
by_taken_good c None got g f = still_good _ c got g
by_taken_good c (Some (TakesAnswer a)) got g f =
    finished_good _ _ got
    (on_call_good _ (quiet (record c { outstanding = None })) c.call a got g.call
    (quiet_good _ (record c { outstanding = None }) got g.checked g.call))
by_taken_good c (Some (TakesReply a r)) got g f = finished_good _ _ _ (reply_call_good c a r c.call got refl g.checked g.call f)
by_taken_good c (Some (TakesRecall r)) got g f = finished_good _ _ got (recalled_good _ c r _ got g)

-- ---- timeouts

timeout_under_good : (c : Client) (call : Call) (k : ℕ) (o : Option Held) (xs : List Awaited) (got : List Column) →
    c.call ≡ Some call → held_of c.held (file_of call.op) ≡ o → IsGood c got →
    GoodAt c.held call.op call.phase got → GoodStep (IsAnswer c got) (timeout_under c call k o xs) got
timeout_under_good c call k (Some h) (a ∷ xs) got p e g w =
    finished_good _ _ got (moved_good _ (quiet c) call.op h (timed_out h call.op call.phase k a xs) got g.checked e
    (timed_good h call.op call.phase k a xs got (held_checked c.held (file_of call.op) h g.checked e)
    (in_phase c.held call.op call.phase got h e w))
    (λ bytes f. answer_of c call h got bytes p e (held_checked c.held (file_of call.op) h g.checked e) f) tt)
timeout_under_good c call k None xs got p e g w = still_good _ c got g
timeout_under_good c call k (Some h) [] got p e g w = still_good _ c got g

timeout_call_good : (c : Client) (k : ℕ) (o : Option Call) (got : List Column) → c.call ≡ o → IsGood c got →
    GoodCall c.held o got → GoodStep (IsAnswer c got) (timeout_call c k o) got
timeout_call_good c k None got p g w = still_good _ c got g
timeout_call_good c k (Some call) got p g w = timeout_under_good c call k _ _ got p refl g w

-- ---- calls

-- a call may begin only where none is pending, and then nothing was read
starts_good : (Fit : List ℕ → Type 0) (c : Client) (op : CallOp) (b : Bool) → AreChecked c.held → IsGood c [] →
    GoodStep Fit
    (if b then record (still c) { outcome = Some (WriteOk 0) } else finished
    (quiet (record c { call = Some (record { op = op; phase = Starts }) }))) []
starts_good Fit c op true x g = record { client = g; outcome = tt }
starts_good Fit c op false x g =
    finished_good Fit _ [] (quiet_good Fit (record c { call = Some (record { op = op; phase = Starts }) }) [] x refl)

-- by the three refusals
refuses : (Fit : List ℕ → Type 0) (c : Client) (got : List Column) (a b d : Bool) (x y z : CallErr) (s : Step) → IsGood c got →
    (a ≡ false → GoodStep Fit s got) →
    GoodStep Fit (unless_refused c (if a then Err x else if b then Err y else if d then Err z else Ok s)) got
refuses Fit c got true b d x y z s v w = still_good Fit c got v
refuses Fit c got false true d x y z s v w = still_good Fit c got v
refuses Fit c got false false true x y z s v w = still_good Fit c got v
refuses Fit c got false false false x y z s v w = w refl

pub none_pending : (o : Option Call) (got : List Column) → is_some o ≡ false → kept_by o got ≡ []
none_pending None got e = refl
none_pending (Some call) got e = absurd (cc e)

calls_good : (Fit : List ℕ → Type 0) (c : Client) (op : CallOp) (got : List Column) → IsGood c (kept_by c.call got) →
    GoodStep Fit (unless_refused c (calls c op)) (kept_by c.call got)
unfolding calls
calls_good Fit c op got g =
    refuses Fit c (kept_by c.call got) (is_some c.call) (is_bad_range (span_of op)) (is_spent c.next) Busy BadRange SlotSpent
    (starts c op) g
    (λ e. let z = none_pending c.call got e in rw z (starts_good Fit c op (writes_nothing op) g.checked (rw z at g)))

-- ---- any step

kept_good : (hs : List Held) (o : Option Call) (got : List Column) → GoodCall hs o got → GoodCall hs o (kept_by o got)
kept_good hs None got x = tt
kept_good hs (Some call) got x = x

step_good : (c : Client) (got : List Column) (i : Input) → IsGood c got →
    GoodStep (IsAnswer c (read_after c got i)) (step c i) (read_after c got i)
unfolding hears times_out leaves
step_good c got (Calls op) g = calls_good _ c op got (record { checked = g.checked; call = kept_good c.held c.call got g.call })
step_good c got (Hears from m) g =
    by_taken_good c (takes c from m) (kept_by c.call got)
    (record { checked = g.checked; call = kept_good c.held c.call got g.call }) (takes_fair c from m)
step_good c got (TimesOut k) g =
    let w = kept_good c.held c.call got g.call in
    timeout_call_good c k c.call (kept_by c.call got) refl (record { checked = g.checked; call = w }) w
step_good c got Leaves g =
    finished_good _ _ _ (quiet_good _ (record c { due = all_due c.due c.held }) _ g.checked (kept_good c.held c.call got g.call))
step_good c got Resends g =
    record { client = record { checked = g.checked; call = kept_good c.held c.call got g.call }; outcome = tt }

pub all_good : (c : Client) (got : List Column) (is : List Input) → IsGood c got → IsGood (state_after c is) (read_by c got is)
all_good c got [] g = g
all_good c got (i ∷ is) g = all_good (step c i).client (read_after c got i) is (step_good c got i g).client

pub fits_answer : (Fit : List ℕ → Type 0) (o : Option Outcome) (bytes : List ℕ) → o ≡ Some (ReadOk bytes) → Fits Fit o → Fit bytes
fits_answer Fit o bytes e x = rw e at x

pub reads_took_replies : ReadsTookReplies
reads_took_replies = λ number sequence is i bytes e.
    let c : Client = state_after (new_client number sequence) is in
    let got : List Column = read_by (new_client number sequence) [] is in
    let g : IsGood c got = all_good (new_client number sequence) [] is (record { checked = tt; call = tt }) in
    fits_answer (IsAnswer c (read_after c got i)) (step c i).outcome bytes e (step_good c got i g).outcome
