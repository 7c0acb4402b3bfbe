-- So it is of each input, and of all of a client's.
use Rattle.std.proofs.Common.{◌≡◌, ◌≢◌, ℕ, ◌==◌, Bool, true, false, List, [], ◌∷◌, Option, Some, None, Ok, Err, length, find, is_some, refl, sym, ap, subst, ◌∙◌, inl, inr, if◌then◌else◌}
use Rattle.std.specs.Prelude.{option_map, ◌&&◌}
use Rattle.std.specs.Option.{option_or}
use Rattle.std.proofs.lemmas.Bool.{eqb-true}
use Rattle.osd_lists.specs.declared.node.Node.{Node}
use Rattle.osd_lists.specs.declared.node.Node.TheVariants.{Server as FromServer, Drive as FromDrive, Client as FromClient}
use Rattle.world_history.specs.ClientNames.{Client, Call, CallOp, Write, Read, CallErr, Busy, BadRange, SlotSpent, Held, Awaited, TimedOut, Need, First, Get, Commit, Report, Close, Phase, Starts, Needs, Waits, Reads, Probes, Gathers, Scatters, Outcome, WriteOk, ReadOk, Done, Request, Answer, Recall, Reply}
use Rattle.client_rules.specs.Calls.{file_of, span_of, is_write}
use Rattle.client_rules.specs.Commands.{of_component}
use Rattle.client_rules.specs.Grants.{held_of}
use Rattle.client_rules.specs.Requests.{grant_in}
use Rattle.client_rules.specs.Io.{awaited_in}
use Rattle.client_rules.specs.Replies.{answers}
use Rattle.client_rules.specs.Going.{quiet}
use Rattle.client_rules.specs.Messages.{Message, Replies, Answers, Recalls, Step, still, finished, on_phase, on_call, no_match, obeys, recalled, reply_under, reply_call, TakesAnswer, TakesRecall, answer_taken, is_awaited, reply_taken, awaited_of, takes, by_taken, hears}
use Rattle.client_rules.specs.Steps.{timeout_under, timeout_call, times_out, is_bad_range, is_spent, writes_nothing, starts, calls, all_due, leaves, new_client}
use Rattle.client_rules.specs.History.{Input, Calls, Hears, TimesOut, Leaves, Resends, unless_refused, step, state_after}
use Rattle.client_rules.proofs.Apart.{IsIn}
use Rattle.client_rules.proofs.ReadMoves.{found_in}
use Rattle.cause_law.specs.Met as met
use Rattle.cause_law.specs.Met.{Met, Answered, Replied, since, with_answer, with_taken, with_timeout, with_silence, met_after, met_by, busy_in, last_busy, timed_in, grant_under, cut_short, lost_under, first_refusal, first_beyond, as_lost}
use Rattle.cause_law.specs.Caused.{WritesAll, call_in, client_by, call_met, IsCaused, OutcomesAreCaused}
use Rattle.cause_law.proofs.Fetching.{Answers as HasAnswer, fetching_answered, nonce_is}
use Rattle.cause_law.proofs.Trace.{Works, IsReturn, IsPlain, return_plain, return_gives, return_quiet, busy_same, answered_works, answered_decided, uncut, last_says, lost_write}
use Rattle.cause_law.proofs.Working.{ReadsOn, WritesOn, GoodNeed, GoodPhase, replied_good, timed_good}
use Rattle.cause_law.proofs.Steps.{ReturnsOnly, Started, NeedsGood, Working, PhaseTraced, CallTraced, IsTraced, Fresh, DoneCall, Told, GoodDone, GoodStep, moved_good, finished_good}
use Rattle.cause_law.proofs.Inputs.{on_need_good}

-- ---- more was met, and the call stays as it is

module _ (r : Request) (a : Answer) (return : IsReturn r.args) (op : CallOp) (ms : List Met) where
  abbrev later : List Met
  later = Answered r a ∷ ms

  plain : IsPlain r a
  plain = return_plain r.args a return

  works_on : (timed : List TimedOut) → Works op ms timed → Works op later timed
  works_on timed w = answered_works op r a ms timed plain w

  writes_on : (timed : List TimedOut) → WritesOn op ms timed → WritesOn op later timed
  writes_on timed w = record { writes = w.writes; works = works_on timed w.works }

  reads_on : (h : Held) (timed : List TimedOut) (empty : Bool) → ReadsOn h op ms timed empty → ReadsOn h op later timed empty
  unfolding timed_in
  reads_on h timed empty x =
      record { reads = x.reads; works = works_on timed x.works; range = x.range; finds = x.finds }

  need_on : (n : Need) → GoodNeed op n ms → GoodNeed op n later
  need_on First x = x
  need_on (Get tries) x = x
  need_on (Commit timed) x = writes_on timed x
  need_on (Report []) x = x
  need_on (Report (t ∷ ts)) x = writes_on (t ∷ ts) x
  need_on (Close o report) x = answered_decided op r a ms o plain x

  phase_on : (h : Held) (p : Phase) → GoodPhase h op p ms → GoodPhase h op p later
  phase_on h Starts x = x
  phase_on h (Needs n) x = need_on n x
  phase_on h (Waits n) x = x
  phase_on h (Reads io) x =
      (reads_on h io.timed false x.0, fetching_answered h op io.got io.timed io.awaited _ ms r a x.1)
  phase_on h (Probes io) x = reads_on h io.timed true x
  phase_on h (Gathers io) x = writes_on io.timed x
  phase_on h (Scatters io queue) x = writes_on io.timed x

  same_count : length (busy_in later) ≡ length (busy_in ms)
  same_count = ap length (busy_same r a ms plain)

  needs_on : (hs : List Held) (n : Need) → NeedsGood hs op n ms → NeedsGood hs op n later
  needs_on hs First x =
      (x.0, record { works = works_on [] x.1.works; quiet = x.1.quiet; count = same_count ∙ x.1.count })
  needs_on hs (Get tries) x =
      record {
        works = works_on [] x.works;
        quiet = x.quiet;
        count = same_count ∙ x.count;
        less = x.less;
        none = x.none;
      }
  needs_on hs (Commit timed) x = (x.0, need_on (Commit timed) x.1)
  needs_on hs (Report timed) x = (x.0, need_on (Report timed) x.1)
  needs_on hs (Close o report) x = (x.0, need_on (Close o report) x.1)

  started_on : (hs : List Held) → Started hs op ms → Started hs op later
  started_on hs x = record {
    works = works_on [] x.works;
    quiet = x.quiet;
    says = return_quiet op r.args a ms return x.works.silent;
    next = elim x.next [ inl none ↦ inl (same_count ∙ none) | inr k ↦ inr k ];
    under = ap (λ (o : Option Held). option_or o (held_of hs (file_of op))) (return_gives op r.args a return);
  }

-- ---- a client that rests

-- as a step begins
fresh_at : (hs : List Held) (out : Option Request) (mine : Option CallOp) (op : CallOp) (p : Phase) (ms : List Met)
    → PhaseTraced hs out op p ms → Fresh hs mine ms hs op p
fresh_at hs out mine op Starts ms x = x.1.under
fresh_at hs out mine op (Needs n) ms x = tt
fresh_at hs out mine op (Waits n) ms x = tt
fresh_at hs out mine op (Reads io) ms x = tt
fresh_at hs out mine op (Probes io) ms x = tt
fresh_at hs out mine op (Gathers io) ms x = tt
fresh_at hs out mine op (Scatters io queue) ms x = tt

-- what the step is about
abbrev pending : Option Call → Option CallOp
pending o = option_map (λ (call : Call). call.op) o

stored : (hs : List Held) (out : Option Request) (o : Option Call) (ms : List Met) → CallTraced hs out o ms
    → DoneCall hs (pending o) ms hs out o
stored hs out None ms x = x
stored hs out (Some call) ms x = (refl, x, fresh_at hs out (Some call.op) call.op call.phase ms x)

since_traced : (hs : List Held) (out : Option Request) (o : Option Call) (ms : List Met) → CallTraced hs out o ms
    → CallTraced hs out o (since o ms)
since_traced hs out None ms x = x
since_traced hs out (Some call) ms x = x

-- ---- one input

module _ (c : Client) (ms : List Met) (x : IsTraced c ms) where
  abbrev GoodOn : List Met → Step → Type 0
  GoodOn now s = GoodStep c.held (pending c.call) now s

  rests : GoodOn ms (still c)
  rests = record { client = x; outcome = tt }

  changed : (d : Done) → d.client.held ≡ c.held → d.client.outstanding ≡ c.outstanding → d.client.call ≡ c.call
      → d.outcome ≡ None → GoodOn ms (finished d)
  changed d held out call told = finished_good c.held (pending c.call) ms d (record {
    call = rw (held, out, call) (stored c.held c.outstanding c.call ms x);
    outcome = rw told tt;
  })

  -- ---- an answer

  module _ (r : Request) (out : c.outstanding ≡ Some r) (a : Answer) where
    abbrev after : Client
    after = record c { outstanding = None }

    traced_at : (call : Call) → c.call ≡ Some call → PhaseTraced c.held (Some r) call.op call.phase ms
    traced_at call is =
        subst (λ (o : Option Request). PhaseTraced c.held o call.op call.phase ms) out
        (subst (λ (o : Option Call). CallTraced c.held c.outstanding o ms) is x)

    abbrev now : List Met
    now = Answered r a ∷ ms

    abbrev GoodNow : Done → Type 0
    GoodNow d = GoodDone c.held (pending c.call) now d

    works_with : (call : Call) → c.call ≡ Some call → PhaseTraced c.held None call.op call.phase now
        → GoodNow (quiet after)
    works_with call is y = record {
      call = subst (λ (o : Option Call). DoneCall c.held (pending c.call) now c.held None o) (sym is)
          (ap pending is, y, fresh_at c.held None (pending c.call) call.op call.phase now y);
      outcome = tt;
    }

    answered_phase : (op : CallOp) (p : Phase) → c.call ≡ Some (record { op = op; phase = p })
        → PhaseTraced c.held (Some r) op p ms → GoodNow (on_phase (quiet after) op p a)
    answered_phase op (Waits n) is y =
        on_need_good c.held (pending c.call) ms op (ap pending is) r a (quiet after) refl refl refl n y.0 y.1
    answered_phase op Starts is y = works_with _ is (tt, started_on r a y.0 op ms c.held y.1)
    answered_phase op (Needs n) is y = works_with _ is (tt, needs_on r a y.0 op ms c.held n y.1)
    answered_phase op (Reads io) is y = works_with _ is (tt, y.1, y.2, phase_on r a y.0 op ms y.1 (Reads io) y.3)
    answered_phase op (Probes io) is y = works_with _ is (tt, y.1, y.2, phase_on r a y.0 op ms y.1 (Probes io) y.3)
    answered_phase op (Gathers io) is y = works_with _ is (tt, y.1, y.2, phase_on r a y.0 op ms y.1 (Gathers io) y.3)
    answered_phase op (Scatters io queue) is y =
        works_with _ is (tt, y.1, y.2, phase_on r a y.0 op ms y.1 (Scatters io queue) y.3)

    answered_call : (o : Option Call) → c.call ≡ o → GoodNow (on_call (quiet after) o a)
    answered_call None is = record {
      call = subst (λ (o : Option Call). DoneCall c.held (pending c.call) now c.held None o) (sym is) tt;
      outcome = tt;
    }
    answered_call (Some call) is = answered_phase call.op call.phase is (traced_at call is)

    answered_good : GoodOn now (finished (on_call (quiet after) c.call a))
    answered_good = finished_good c.held (pending c.call) now _ (answered_call c.call refl)

  -- ---- a reply

  -- what awaits something works, under its grant
  working_at : (op : CallOp) (p : Phase) (a : Awaited) → PhaseTraced c.held c.outstanding op p ms → IsIn a (awaited_in p)
      → Working c.held c.outstanding op p ms
  working_at op Starts a y i = absurd i
  working_at op (Needs n) a y i = absurd i
  working_at op (Waits n) a y i = absurd i
  working_at op (Reads io) a y i = y
  working_at op (Probes io) a y i = y
  working_at op (Gathers io) a y i = y
  working_at op (Scatters io queue) a y i = y

  replied_call : (a : Awaited) (r : Reply) → r.nonce ≡ a.command.nonce → (o : Option Call) → c.call ≡ o
      → IsIn a (awaited_of o) → GoodDone c.held (pending c.call) (Replied a r ∷ ms) (reply_call c a r o)
  replied_call a r n None is i = absurd i
  replied_call a r n (Some call) is i =
      let w = working_at call.op call.phase a (subst (λ (o : Option Call). CallTraced c.held c.outstanding o ms) is x) i in
      subst (λ (o : Option Held). GoodDone c.held (pending c.call) (Replied a r ∷ ms) (reply_under c call a r o)) (sym w.2)
      (moved_good c.held (pending c.call) (Replied a r ∷ ms) (quiet c) call.op w.1 _ (ap pending is) w.2 w.2 w.0
      (replied_good w.1 call.op call.phase a r ms n w.3 i) tt)

  -- ---- a timeout

  working_timed : (k : ℕ) (op : CallOp) (p : Phase) (a : Awaited) (ys : List Awaited)
      → of_component k (awaited_in p) ≡ a ∷ ys
      → PhaseTraced c.held c.outstanding op p ms → Working c.held c.outstanding op p ms
  unfolding of_component
  working_timed k op Starts a ys e y = absurd (cc e)
  working_timed k op (Needs n) a ys e y = absurd (cc e)
  working_timed k op (Waits n) a ys e y = absurd (cc e)
  working_timed k op (Reads io) a ys e y = y
  working_timed k op (Probes io) a ys e y = y
  working_timed k op (Gathers io) a ys e y = y
  working_timed k op (Scatters io queue) a ys e y = y

  timed_under : (k : ℕ) (call : Call) → c.call ≡ Some call → (o : Option Held) → held_of c.held (file_of call.op) ≡ o
      → (ys : List Awaited) → of_component k (awaited_in call.phase) ≡ ys
      → GoodOn (with_timeout k o ys ms) (timeout_under c call k o ys)
  timed_under k call is None held ys e = rests
  timed_under k call is (Some h) held [] e = rests
  timed_under k call is (Some h) held (a ∷ ys) e =
      let now : List Met = met.TimedOut h k ∷ ms in
      let y : CallTraced c.held c.outstanding (Some call) ms =
      subst (λ (o : Option Call). CallTraced c.held c.outstanding o ms) is x in
      let w = working_timed k call.op call.phase a ys e y in
      let same : w.1 ≡ h = cc (sym w.2 ∙ held) in
      finished_good c.held (pending c.call) now _
      (moved_good c.held (pending c.call) now (quiet c) call.op h _ (ap pending is) held held w.0
      (timed_good h call.op k a ys ms call.phase (subst (λ (g : Held). GoodPhase g call.op call.phase ms) same w.3) e) tt)

  timed_call : (k : ℕ) (o : Option Call) → c.call ≡ o → GoodOn (with_silence c k o ms) (timeout_call c k o)
  timed_call k None is = rests
  timed_call k (Some call) is =
      timed_under k call is (held_of c.held (file_of call.op)) refl (of_component k (awaited_in call.phase)) refl

  -- ---- a message

  by_reply : (drive : ℕ) (r : Reply) (o : Option Awaited) → find (answers drive r) (awaited_of c.call) ≡ o
      → GoodOn (with_taken c (reply_taken r o) ms) (by_taken c (reply_taken r o))
  by_reply drive r None e = rests
  by_reply drive r (Some a) e =
      finished_good c.held (pending c.call) (Replied a r ∷ ms) _
      (replied_call a r (nonce_is drive r (awaited_of c.call) a e) c.call refl
      (found_in (answers drive r) (awaited_of c.call) a e))

  by_awaited : (a : Answer) (r : Request) → c.outstanding ≡ Some r → (b : Bool)
      → GoodOn (with_taken c (if b then Some (TakesAnswer a) else None) ms)
      (by_taken c (if b then Some (TakesAnswer a) else None))
  by_awaited a r out true =
      subst (λ (o : Option Request).
      GoodOn (with_answer o a ms) (finished (on_call (quiet (record c { outstanding = None })) c.call a)))
      (sym out) (answered_good r out a)
  by_awaited a r out false = rests

  by_answer : (a : Answer) (o : Option Request) → c.outstanding ≡ o
      → GoodOn (with_taken c (answer_taken c a o) ms) (by_taken c (answer_taken c a o))
  by_answer a None out = rests
  by_answer a (Some r) out = by_awaited a r out (is_awaited c a r)

  by_number : (r : Recall) (b : Bool) → GoodOn ms (finished (if b then obeys c r else no_match c r))
  by_number r true = changed (obeys c r) refl refl refl refl
  by_number r false = changed (no_match c r) refl refl refl refl

  by_held : (r : Recall) (o : Option Held) → GoodOn ms (finished (recalled c r o))
  by_held r None = changed (no_match c r) refl refl refl refl
  by_held r (Some h) = by_number r (h.number == grant_in r.args.stateid)

  by_recall : (r : Recall) (b : Bool) → GoodOn (with_taken c (if b then Some (TakesRecall r) else None) ms)
      (by_taken c (if b then Some (TakesRecall r) else None))
  by_recall r true = by_held r (held_of c.held r.file)
  by_recall r false = rests

  pub heard_good : (from : Node) (m : Message) → GoodOn (with_taken c (takes c from m) ms) (hears c from m)
  unfolding hears takes
  heard_good (FromDrive drive) (Replies r) = by_reply drive r (find (answers drive r) (awaited_of c.call)) refl
  heard_good FromServer (Answers a) = by_answer a c.outstanding refl
  heard_good FromServer (Recalls r) = by_recall r (r.client == c.number)
  heard_good (FromDrive drive) (Answers a) = rests
  heard_good (FromDrive drive) (Recalls r) = rests
  heard_good FromServer (Replies r) = rests
  heard_good (FromClient n) (Replies r) = rests
  heard_good (FromClient n) (Answers a) = rests
  heard_good (FromClient n) (Recalls r) = rests

-- ---- a call

none_met : (op : CallOp) → Works op [] []
unfolding last_busy first_refusal first_beyond timed_in
none_met op = record { busy = refl; refusal = refl; beyond = refl; silent = refl }

no_bytes : (op : CallOp) → (is_write op && ((span_of op).length == 0)) ≡ true
    → (is_write op ≡ true) × WritesAll op (WriteOk 0)
no_bytes (Write file offset bytes) e = (refl, sym (eqb-true (length bytes) 0 e))
no_bytes (Read file offset count) e = absurd (cc e)

module _ (c : Client) (op : CallOp) where
  starts_good : ReturnsOnly c.outstanding → c.call ≡ None → (b : Bool) → writes_nothing op ≡ b
      → GoodStep c.held (Some op) []
      (if b then record (still c) { outcome = Some (WriteOk 0) }
      else finished (quiet (record c { call = Some (record { op = op; phase = Starts }) })))
  unfolding busy_in
  starts_good r free true e =
      let w = no_bytes op e in
      record {
        client = subst (λ (o : Option Call). CallTraced c.held c.outstanding o []) (sym free) r;
        outcome = (
          op,
          refl,
          record {
            cause = last_says (grant_under c.held op []) op [] [] (none_met op)
                (lost_write (grant_under c.held op []) op [] w.0);
            whole = w.1;
            answer = tt;
          },
        );
      }
  starts_good r free false e =
      finished_good c.held (Some op) [] _ (record {
        call = (refl, (r, record { works = none_met op; quiet = tt; says = refl; next = inl refl; under = refl }), refl);
        outcome = tt;
      })

  free_call : (o : Option Call) → is_some o ≡ false → o ≡ None
  free_call None e = refl
  free_call (Some call) e = absurd (cc e)

  refuses : (ms : List Met) (a b d : Bool) (x y z : CallErr) → IsTraced c (since c.call ms) → is_some c.call ≡ a
      → GoodStep c.held (Some op) (since c.call ms)
      (unless_refused c (if a then Err x else if b then Err y else if d then Err z else Ok (starts c op)))
  refuses ms true b d x y z t e = record { client = t; outcome = tt }
  refuses ms false true d x y z t e = record { client = t; outcome = tt }
  refuses ms false false true x y z t e = record { client = t; outcome = tt }
  refuses ms false false false x y z t e =
      let none : c.call ≡ None = free_call c.call e in
      let r : ReturnsOnly c.outstanding = subst (λ (o : Option Call). CallTraced c.held c.outstanding o (since o ms)) none t in
      subst (λ (o : Option Call). GoodStep c.held (Some op) (since o ms) (starts c op)) (sym none)
      (starts_good r none (writes_nothing op) refl)

  pub calls_good : (ms : List Met) → IsTraced c (since c.call ms)
      → GoodStep c.held (Some op) (since c.call ms) (unless_refused c (calls c op))
  unfolding calls
  calls_good ms t = refuses ms (is_some c.call) (is_bad_range (span_of op)) (is_spent c.next) Busy BadRange SlotSpent t refl

-- ---- any step

-- a new client has no call
pub traced_new : (number sequence : ℕ) (ms : List Met) → IsTraced (new_client number sequence) ms
traced_new number sequence ms = tt

pub step_good : (c : Client) (ms : List Met) (i : Input) → IsTraced c ms
    → GoodStep c.held (call_in c i) (met_after c ms i) (step c i)
unfolding times_out leaves
step_good c ms (Calls op) x = calls_good c op ms (since_traced c.held c.outstanding c.call ms x)
step_good c ms (Hears from m) x =
    heard_good c (since c.call ms) (since_traced c.held c.outstanding c.call ms x) from m
step_good c ms (TimesOut k) x =
    timed_call c (since c.call ms) (since_traced c.held c.outstanding c.call ms x) k c.call refl
step_good c ms Leaves x =
    changed c (since c.call ms) (since_traced c.held c.outstanding c.call ms x)
    (quiet (record c { due = all_due c.due c.held })) refl refl refl refl
step_good c ms Resends x =
    record { client = since_traced c.held c.outstanding c.call ms x; outcome = tt }

all_good : (c : Client) (ms : List Met) (is : List Input) → IsTraced c ms → IsTraced (state_after c is) (met_by c ms is)
all_good c ms [] x = x
all_good c ms (i ∷ is) x = all_good (step c i).client (met_after c ms i) is (step_good c ms i x).client

caused : (c : Client) (ms : List Met) (i : Input) (o : Outcome) → IsTraced c ms → (step c i).outcome ≡ Some o
    → IsCaused c ms i o
caused c ms i o x e =
    let t = subst (Told c.held (call_in c i) (met_after c ms i)) e (step_good c ms i x).outcome in
    record { op = t.0; call = t.1; cause = t.2.cause; whole = t.2.whole }

-- all that a call has met behind one input more
abbrev pub met_with : (number sequence : ℕ) → List Input → Input → List Met
met_with number sequence is i = met_after (client_by number sequence is) (call_met number sequence is) i

-- a read that is answered
pub is_answered : (number sequence : ℕ) (is : List Input) (i : Input) (bytes : List ℕ)
    → (step (client_by number sequence is) i).outcome ≡ Some (ReadOk bytes)
    → (op : CallOp) × (call_in (client_by number sequence is) i ≡ Some op)
    × HasAnswer (grant_under (client_by number sequence is).held op (met_with number sequence is i)) op
    (met_with number sequence is i) (ReadOk bytes)
is_answered number sequence is i bytes e =
    let c : Client = client_by number sequence is in
    let ms : List Met = call_met number sequence is in
    let t = subst (Told c.held (call_in c i) (met_after c ms i)) e
    (step_good c ms i (all_good (new_client number sequence) [] is tt)).outcome in
    (t.0, t.1, t.2.answer)

read_goes_on : (c : Client) (op : CallOp) (ms : List Met) (h : Held) (timed : List TimedOut) (empty : Bool)
    → held_of c.held (file_of op) ≡ Some h → ReadsOn h op ms timed empty
    → cut_short (held_of c.held (file_of op)) op ms ≡ None
read_goes_on c op ms h timed empty held r =
    uncut (held_of c.held (file_of op)) op ms timed r.works
    (ap (lost_under op ms) held ∙ rw r.reads (ap as_lost r.finds))

write_goes_on : (c : Client) (op : CallOp) (ms : List Met) (timed : List TimedOut) → WritesOn op ms timed
    → cut_short (held_of c.held (file_of op)) op ms ≡ None
write_goes_on c op ms timed w =
    uncut (held_of c.held (file_of op)) op ms timed w.works (lost_write (held_of c.held (file_of op)) op ms w.writes)

goes_on : (c : Client) (op : CallOp) (p : Phase) (ms : List Met) → PhaseTraced c.held c.outstanding op p ms
    → awaited_in p ≢ [] → cut_short (held_of c.held (file_of op)) op ms ≡ None
goes_on c op Starts ms x some = absurd (some refl)
goes_on c op (Needs n) ms x some = absurd (some refl)
goes_on c op (Waits n) ms x some = absurd (some refl)
goes_on c op (Reads io) ms x some = read_goes_on c op ms x.1 io.timed false x.2 x.3.0
goes_on c op (Probes io) ms x some = read_goes_on c op ms x.1 io.timed true x.2 x.3
goes_on c op (Gathers io) ms x some = write_goes_on c op ms io.timed x.3
goes_on c op (Scatters io queue) ms x some = write_goes_on c op ms io.timed x.3

pub outcomes_are_caused : OutcomesAreCaused
outcomes_are_caused = record {
  ends = λ number sequence is i o e.
      caused (client_by number sequence is) (call_met number sequence is) i o
      (all_good (new_client number sequence) [] is tt) e;
  works = λ number sequence is call e some.
      let c : Client = client_by number sequence is in
      let ms : List Met = call_met number sequence is in
      goes_on c call.op call.phase ms
      (subst (λ (o : Option Call). CallTraced c.held c.outstanding o ms) e (all_good (new_client number sequence) [] is tt))
      some;
}
