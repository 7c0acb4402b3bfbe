-- What a call awaits of the drives it came to by its dealings with them, in every history, whatever came to its client.
-- Towards `CutsHaveRoom` (`specs/Parts.antt`).
use Rattle.std.proofs.Common.{◌≡◌, ◌⊎◌, ◌==◌, ◌≤◌, ℕ, Bool, true, false, List, [], ◌∷◌, length, Option, Some, None, Result, Ok, Err, is_some, refl, sym, ap, subst, ◌∙◌, inl, inr, arith, if◌then◌else◌}
use Rattle.std.proofs.lemmas.Bool.{cases_Bool, ltb-false}
use Rattle.osd_lists.proofs.Tests.{first_false}
use Rattle.layout_ops.specs.declared.messages.Answer.{Answer}
use Rattle.layout_ops.specs.declared.statuses.TheConstants.{NFS4_OK, NFS4ERR_BADLAYOUT}
use Rattle.client_rules.specs.declared.limits.TheConstants.{MAX_CALL}
use Rattle.client_rules.specs.Answers.{committed, on_commit, not_committed, not_granted, refused_with}
use Rattle.client_rules.specs.Calls.{file_of, span_of}
use Rattle.client_rules.specs.Commands.{of_component}
use Rattle.client_rules.specs.Going.{quiet, over, with_held, by_turn, moved, begins, requests, asks_under, returns}
use Rattle.client_rules.specs.Grants.{held_of}
use Rattle.client_rules.specs.History.{Input, Calls, unless_refused, step}
use Rattle.client_rules.specs.Io.{awaited_in}
use Rattle.client_rules.specs.Layouts.{taken}
use Rattle.client_rules.specs.Laws.{IsNumbered}
use Rattle.client_rules.specs.Messages.{Step, still, finished, answered_get, on_get, commit_under, on_need, on_phase, on_call, obeys, no_match}
use Rattle.client_rules.specs.Replies.{answers, replied, timed_out}
use Rattle.client_rules.specs.Results.{status_of}
use Rattle.client_rules.specs.Steps.{calls, is_bad_range, is_spent, writes_nothing, all_due}
use Rattle.client_rules.proofs.Numbering.{nonces_rise}
use Rattle.client_rules.proofs.HeldGrants.{held_file, put_at}
use Rattle.client_rules.proofs.ReadSteps.{Refuses, refused_with_refuses}
use Rattle.server_rules.specs.Laws.{In}
use Rattle.server_rules.proofs.Members.{in_filtered}
use Rattle.world_history.specs.ClientNames.{Awaited, Busy, BadRange, SlotSpent, Call, CallOp, Client, Done, Due, Held, Moved, Need, First, Get, Commit, Report, Close, Outcome, Phase, Starts, Needs, Waits, Reads, Probes, Gathers, Scatters, Status, TimedOut, Turn, Goes, Ends, Forgets, Why, WriteOk}
use Rattle.history_law.specs.Turns.{TurnCases, FinishCases, with_start}
use Rattle.history_law.proofs.Turns.{each_turn, each_finish}
use Rattle.exchange_law.proofs.CountAsking.{HeldsCount, FoundCounts, IsAnew, found_counts, put_counts}
use Rattle.exchange_law.proofs.CountClients.{taken_new}
use Rattle.exchange_law.proofs.Kept.{IsKept, begins_kept, replied_kept, timed_out_kept, on_commit_kept}
use Rattle.exchange_law.proofs.Settled.{BeginsAnew, IsSettled, begins_settled, replied_settled, timed_out_settled, on_commit_settled}
use Rattle.relation_law.proofs.MessagesAlways.{Any, found_one, has_bytes, on_call_fine, quiet_fine, replied_done, timed_done}
use Rattle.relation_law.proofs.MessagesRun.{FineDone, IsFine, finishes}
use Rattle.headline_law.proofs.RoomCalls.{Dealt, more_dealt, begins_dealt, replied_dealt, timed_dealt}

-- A call's range is within the limit, and under the grant that is held it came to what it awaits by its dealings with the
-- drives, which began when at most n commands had been sent under the grant.
abbrev pub CallDealt : ℕ → List Held → Option Call → Type 0
CallDealt n hs None = Unit {0}
CallDealt n hs (Some call) =
    ((span_of call.op).length ≤ MAX_CALL)
    × ((g : Held) → held_of hs (file_of call.op) ≡ Some g → (a : Awaited) → In a (awaited_in call.phase) →
    Dealt n g call.op call.phase)

-- in a turn: a call that begins anew has sent nothing yet
pub record DoneDealt (n : ℕ) (d : Done) : Type 0 where
  pub fine : FineDone Any d
  pub anew : IsAnew d.client.call → HeldsCount n d.client.held
  pub call : CallDealt n d.client.held d.client.call

its_range : (n : ℕ) (hs : List Held) (o : Option Call) (call : Call) → o ≡ Some call → CallDealt n hs o →
    (span_of call.op).length ≤ MAX_CALL
its_range n hs None call e k = absurd (cc e)
its_range n hs (Some x) call e k = let same : x ≡ call = cc e in rw same at k.0

its_dealt : (n : ℕ) (hs : List Held) (o : Option Call) (call : Call) (h : Held) (a : Awaited) → o ≡ Some call → CallDealt n hs o →
    held_of hs (file_of call.op) ≡ Some h → In a (awaited_in call.phase) → Dealt n h call.op call.phase
its_dealt n hs None call h a e k held i = absurd (cc e)
its_dealt n hs (Some x) call h a e k held i =
    let same : x ≡ call = cc e in
    (subst (λ (y : Call). (g : Held) → held_of hs (file_of y.op) ≡ Some g → (b : Awaited) → In b (awaited_in y.phase) →
    Dealt n g y.op y.phase) same k.1) h held a i

-- a phase that awaits nothing
awaits_none : (n : ℕ) (hs : List Held) (op : CallOp) (p : Phase) → (span_of op).length ≤ MAX_CALL → awaited_in p ≡ [] →
    CallDealt n hs (Some (record { op = op; phase = p }))
awaits_none n hs op p range none = (range, λ g e a i. absurd (subst (In a) none i))

no_call : (n : ℕ) (hs : List Held) (o : Option Call) → o ≡ None → CallDealt n hs o
no_call n hs None e = tt
no_call n hs (Some call) e = absurd (cc e)

-- ---- what becomes of a call

-- what is so of each phase to which a turn comes
abbrev pub ComesBy : ℕ → Held → CallOp → Turn → Type 0
ComesBy n k op t = (p : Phase) → t ≡ Goes p → (a : Awaited) → In a (awaited_in p) → Dealt n k op p

turn_dealt : (n : ℕ) (d : Done) (op : CallOp) (k : Held) (t : Turn) → FineDone Any (by_turn d op t) →
    (BeginsAnew t → HeldsCount n d.client.held) → held_of d.client.held (file_of op) ≡ Some k →
    (span_of op).length ≤ MAX_CALL → ComesBy n k op t → DoneDealt n (by_turn d op t)
turn_dealt n d op k (Goes p) fine low held range dealt = record {
  fine = fine;
  anew = low;
  call = (
    range,
    λ g e a i. (let same : k ≡ g = cc (sym held ∙ e) in subst (λ (y : Held). Dealt n y op p) same (dealt p refl a i)),
  );
}
turn_dealt n d op k (Ends o) fine low held range dealt = record { fine = fine; anew = λ x. absurd x; call = tt }
turn_dealt n d op k (Forgets o) fine low held range dealt = record { fine = fine; anew = λ x. absurd x; call = tt }

moved_dealt : (n : ℕ) (d : Done) (op : CallOp) (h : Held) (m : Moved) → FineDone Any (moved d op m) → HeldsCount n d.client.held →
    held_of d.client.held (file_of op) ≡ Some h → IsKept h m → IsNumbered h m → IsSettled m → (span_of op).length ≤ MAX_CALL →
    ComesBy n m.held op m.turn → DoneDealt n (moved d op m)
moved_dealt n d op h m fine low found kept counts settled range dealt =
    turn_dealt n (record (with_held d m.held) { commands = m.sent }) op m.held m.turn fine
    (λ new. put_counts n d.client.held m.held low (still_low new))
    (put_at d.client.held m.held (file_of op) (kept.file ∙ held_file d.client.held (file_of op) h found)) range dealt
  where
    still_low : BeginsAnew m.turn → m.held.count ≤ n
    still_low new =
        let none : length m.sent ≡ 0 = ap (λ (xs : List Awaited). length xs) (settled.none new) in
        let own : h.count ≤ n =
        subst (FoundCounts n) found (found_counts n d.client.held (file_of op) low) in
        omega (arith, none, own, counts.counted)

-- ---- to the end of a turn

begins_now : (d : Done) (op : CallOp) → d.client.call ≡ Some (record { op = op; phase = Starts }) → IsAnew d.client.call
begins_now d op e = subst IsAnew (sym e) tt

finishes_dealt : (n : ℕ) → FinishCases (DoneDealt n)
unfolding requests
finishes_dealt n = record {
  needs = λ d op x q is out first. record {
    fine = (finishes Any).needs d op x q.fine is out first;
    anew = λ z. absurd z;
    call = awaits_none n d.client.held op (Needs x) (its_range n d.client.held d.client.call _ is q.call) refl;
  };
  begun = λ d op h q is held cover.
      let low : HeldsCount n d.client.held = q.anew (begins_now d op is) in
      let own : h.count ≤ n = subst (FoundCounts n) held (found_counts n d.client.held (file_of op) low) in
      moved_dealt n d op h (begins h op) ((finishes Any).begun d op h q.fine is held cover) low held (begins_kept h op)
      (nonces_rise.begun h op) (begins_settled h op) (its_range n d.client.held d.client.call _ is q.call)
      (λ p goes a i. begins_dealt n h op own (q.fine.usable (file_of op) h held) p goes);
  asks = λ d op x o q is out held.
      asks_dealt d op x o ((finishes Any).asks d op x o q.fine is out held)
      (its_range n d.client.held d.client.call _ is q.call);
  gives_back = λ d u q none out. gives_dealt d u ((finishes Any).gives_back d u q.fine none out) q none;
}
  where
    asks_dealt : (d : Done) (op : CallOp) (x : Need) (o : Option Held) → FineDone Any (asks_under d op x o) →
        (span_of op).length ≤ MAX_CALL → DoneDealt n (asks_under d op x o)
    asks_dealt d op x None fine range =
        record { fine = fine; anew = λ z. absurd z; call = awaits_none n _ op (Waits x) range refl }
    asks_dealt d op x (Some h) fine range =
        record { fine = fine; anew = λ z. absurd z; call = awaits_none n _ op (Waits x) range refl }

    gives_dealt : (d : Done) (u : Option Due) → FineDone Any (returns d u) → DoneDealt n d → d.client.call ≡ None →
        DoneDealt n (returns d u)
    gives_dealt d None fine q none = record { fine = fine; anew = q.anew; call = q.call }
    gives_dealt d (Some u) fine q none = record {
      fine = fine;
      anew = λ z. absurd (subst IsAnew none z);
      call = no_call n _ d.client.call none;
    }

-- behind a turn
abbrev pub ClientDealt : ℕ → Client → Type 0
ClientDealt n c = CallDealt n c.held c.call

more_call : (m n : ℕ) (hs : List Held) (o : Option Call) → m ≤ n → CallDealt m hs o → CallDealt n hs o
more_call m n hs None l k = tt
more_call m n hs (Some call) l k = (k.0, λ g e a i. more_dealt m n g call.op call.phase l (k.1 g e a i))

pub more_client : (m n : ℕ) (c : Client) → m ≤ n → ClientDealt m c → ClientDealt n c
more_client m n c l k = more_call m n c.held c.call l k

finished_dealt : (n : ℕ) (d : Done) → DoneDealt n d → ClientDealt n (finished d).client
unfolding finished
finished_dealt n d q = (each_finish (DoneDealt n) (finishes_dealt n) d q).call

-- ---- answers

-- a turn that awaits nothing
abbrev AwaitsNone : Turn → Type 0
AwaitsNone t = (p : Phase) → t ≡ Goes p → awaited_in p ≡ []

ends_none : (o : Outcome) → AwaitsNone (Ends o)
ends_none o p e = absurd (cc e)

forgets_none : (o : Outcome) → AwaitsNone (Forgets o)
forgets_none o p e = absurd (cc e)

needs_none : (x : Need) → AwaitsNone (Goes (Needs x))
needs_none x p e = let same : Needs x ≡ p = cc e in subst (λ (q : Phase). awaited_in q ≡ []) same refl

commit_none : (h : Held) (op : CallOp) (a : Answer) (timed : List TimedOut) → AwaitsNone (on_commit h op a timed).turn
unfolding on_commit not_committed
commit_none h op a timed = elim (cases_Bool (status_of a.results == NFS4_OK)) [
  | inl ok ↦ rw ok (by timed)
  | inr other ↦ rw other (refused (status_of a.results == NFS4ERR_BADLAYOUT))
]
  where
    by : (ts : List TimedOut) → AwaitsNone (committed h op a ts).turn
    by [] = ends_none _
    by (t ∷ ts) = needs_none _

    refused : (b : Bool) →
        AwaitsNone (if b then Forgets (Status (status_of a.results) a.detail) else Ends (Status (status_of a.results) a.detail))
    refused true = forgets_none _
    refused false = ends_none _

module _ (n : ℕ) (d : Done) (low : HeldsCount n d.client.held) (old : CallDealt n d.client.held d.client.call) where
  same_dealt : FineDone Any d → DoneDealt n d
  same_dealt fine = record { fine = fine; anew = λ x. low; call = old }

  over_dealt : (o : Outcome) → FineDone Any (over d o) → DoneDealt n (over d o)
  over_dealt o fine = record { fine = fine; anew = λ x. absurd x; call = tt }

  refusal_dealt : (op : CallOp) (t : Turn) → Refuses t → (span_of op).length ≤ MAX_CALL → FineDone Any (by_turn d op t) →
      DoneDealt n (by_turn d op t)
  refusal_dealt op (Goes (Needs (Get tries))) x range fine = record {
    fine = fine;
    anew = λ z. absurd z;
    call = awaits_none n d.client.held op (Needs (Get tries)) range refl;
  }
  refusal_dealt op (Ends o) x range fine = record { fine = fine; anew = λ z. absurd z; call = tt }
  refusal_dealt op t x range fine = absurd x

  get_dealt : (op : CallOp) (a : Answer) (r : Result Held Why) → taken a op ≡ r → (span_of op).length ≤ MAX_CALL →
      FineDone Any (answered_get d op r) → DoneDealt n (answered_get d op r)
  get_dealt op a (Err w) is range fine = record { fine = fine; anew = λ z. absurd z; call = tt }
  get_dealt op a (Ok h) is range fine = record {
    fine = fine;
    anew = λ z. put_counts n d.client.held h low (omega (arith, taken_new a op h is));
    call = awaits_none n _ op Starts range refl;
  }

  on_get_dealt : (op : CallOp) (tries : ℕ) (a : Answer) → (span_of op).length ≤ MAX_CALL → FineDone Any (on_get d op tries a) →
      DoneDealt n (on_get d op tries a)
  unfolding not_granted
  on_get_dealt op tries a range fine = elim (cases_Bool (status_of a.results == NFS4_OK)) [
    | inl ok ↦ rw ok (get_dealt op a (taken a op) refl range (rw ok at fine))
    | inr other ↦ rw other (refusal_dealt op (refused_with (status_of a.results) a.detail tries)
        (refused_with_refuses (status_of a.results) a.detail tries) range (rw other at fine))
  ]

  commit_dealt : (op : CallOp) (a : Answer) (timed : List TimedOut) (o : Option Held) → held_of d.client.held (file_of op) ≡ o →
      (span_of op).length ≤ MAX_CALL → FineDone Any (commit_under d op a (Commit timed) o) →
      DoneDealt n (commit_under d op a (Commit timed) o)
  commit_dealt op a timed None found range fine = same_dealt fine
  commit_dealt op a timed (Some h) found range fine =
      moved_dealt n d op h (on_commit h op a timed) fine low found (on_commit_kept h op a timed)
      (nonces_rise.committed h op a timed) (on_commit_settled h op a timed) range
      (λ p goes b i. absurd (subst (In b) (commit_none h op a timed p goes) i))

  on_need_dealt : (op : CallOp) (x : Need) (a : Answer) → (span_of op).length ≤ MAX_CALL → FineDone Any (on_need d op x a) →
      DoneDealt n (on_need d op x a)
  on_need_dealt op First a range fine =
      record { fine = fine; anew = λ z. low; call = awaits_none n d.client.held op Starts range refl }
  on_need_dealt op (Get tries) a range fine = on_get_dealt op tries a range fine
  on_need_dealt op (Commit timed) a range fine =
      commit_dealt op a timed (held_of d.client.held (file_of op)) refl range fine
  on_need_dealt op (Report timed) a range fine = over_dealt _ fine
  on_need_dealt op (Close outcome report) a range fine = over_dealt outcome fine

  on_phase_dealt : (op : CallOp) (p : Phase) (a : Answer) → (span_of op).length ≤ MAX_CALL → FineDone Any (on_phase d op p a) →
      DoneDealt n (on_phase d op p a)
  on_phase_dealt op (Waits x) a range fine = on_need_dealt op x a range fine
  on_phase_dealt op Starts a range fine = same_dealt fine
  on_phase_dealt op (Needs x) a range fine = same_dealt fine
  on_phase_dealt op (Reads io) a range fine = same_dealt fine
  on_phase_dealt op (Probes io) a range fine = same_dealt fine
  on_phase_dealt op (Gathers io) a range fine = same_dealt fine
  on_phase_dealt op (Scatters io queue) a range fine = same_dealt fine

  on_call_dealt : (o : Option Call) (a : Answer) → d.client.call ≡ o → FineDone Any (on_call d o a) → DoneDealt n (on_call d o a)
  on_call_dealt None a e fine = same_dealt fine
  on_call_dealt (Some call) a e fine =
      on_phase_dealt call.op call.phase a (its_range n d.client.held d.client.call call e old) fine

-- ---- a turn

-- a call that comes leaves the client as it was, or is of a range within the limit that isn't empty where it writes
refused_or_begins : (c : Client) (op : CallOp) →
    ((step c (Calls op)).client ≡ c) ⊎ ((writes_nothing op ≡ false) × ((span_of op).length ≤ MAX_CALL))
unfolding calls
refused_or_begins c op = by_tests (is_some c.call) (is_bad_range (span_of op)) (is_spent c.next) (writes_nothing op) refl refl
  where
    by_tests : (a b s w : Bool) → is_bad_range (span_of op) ≡ b → writes_nothing op ≡ w →
        ((unless_refused c (if a then Err Busy else if b then Err BadRange else if s then Err SlotSpent
        else Ok (if w then record (still c) { outcome = Some (WriteOk 0) } else finished (quiet (with_start c op))))).client
        ≡ c)
        ⊎ ((writes_nothing op ≡ false) × ((span_of op).length ≤ MAX_CALL))
    by_tests true b s w x y = inl refl
    by_tests false true s w x y = inl refl
    by_tests false false true w x y = inl refl
    by_tests false false false true x y = inl refl
    by_tests false false false false x y = inr (y, ltb-false MAX_CALL (span_of op).length (first_false _ _ x))

of_there : (j : ℕ) (xs : List Awaited) (a : Awaited) → In a (of_component j xs) → In a xs
unfolding of_component
of_there j xs a i = (in_filtered _ a xs i).0

module _ (n : ℕ) (c : Client) (i : Input) (f : IsFine c) (low : HeldsCount n c.held) (k : ClientDealt n c) where
  done : (d : Done) → FineDone Any d → d.client.held ≡ c.held → d.client.call ≡ c.call → ClientDealt n (finished d).client
  done d fine held call = finished_dealt n d (record {
    fine = fine;
    anew = λ x. subst (HeldsCount n) (sym held) low;
    call = rw (held, call) k;
  })

  cases : TurnCases c i (λ (s : Step). s ≡ step c i → ClientDealt n s.client)
  cases = record {
    rests = λ e. k;
    nothing = λ op is none e. k;
    called = λ op is free can e. elim (refused_or_begins c op) [
      | inl same ↦
          subst (ClientDealt n)
          (sym (ap (λ (s : Step). s.client) (e ∙ ap (step c) is) ∙ same)) k
      | inr begins_ ↦ finished_dealt n (quiet (with_start c op)) (record {
        fine = record { usable = f.usable; call = (has_bytes op begins_.0, λ h there. tt); outcome = tt };
        anew = λ x. low;
        call = awaits_none n c.held op Starts begins_.1 refl;
      })
    ];
    answered = λ a is e.
        finished_dealt n _
        (on_call_dealt n (quiet (record c { outstanding = None })) low k c.call a refl
        (on_call_fine (quiet (record c { outstanding = None })) c.call a refl
        (record { usable = f.usable; call = f.call; outcome = tt })));
    replied = λ drive q call h a is e.
        finished_dealt n _
        (moved_dealt n (quiet c) call.op h (replied h call.op call.phase a q)
        (replied_done c i f Any drive q call h a is (λ bytes x. tt)) low is.held (replied_kept h call.op call.phase a q)
        (nonces_rise.replied h call.op call.phase a q) (replied_settled h call.op call.phase a q)
        (its_range n c.held c.call call is.call_is k)
        (λ p goes b j.
        let there : In a (awaited_in call.phase) = found_one (answers drive q) (awaited_in call.phase) a is.awaits in
        replied_dealt n h call.op call.phase (its_dealt n c.held c.call call h a is.call_is k is.held there) a q there p goes));
    unheld = λ e. done (quiet c) (quiet_fine Any c f) refl refl;
    recalled = λ q is e. done (obeys c q) (record { usable = f.usable; call = f.call; outcome = tt }) refl refl;
    unmatched = λ q is e. done (no_match c q) (record { usable = f.usable; call = f.call; outcome = tt }) refl refl;
    timed = λ j call h a xs is e.
        finished_dealt n _
        (moved_dealt n (quiet c) call.op h (timed_out h call.op call.phase j a xs)
        (timed_done c i f Any j call h a xs is (λ bytes x. tt)) low is.held (timed_out_kept h call.op call.phase j a xs)
        (nonces_rise.timed h call.op call.phase j a xs) (timed_out_settled h call.op call.phase j a xs)
        (its_range n c.held c.call call is.call_is k)
        (λ p goes b l.
        timed_dealt n h call.op call.phase
        (its_dealt n c.held c.call call h a is.call_is k is.held
        (of_there j (awaited_in call.phase) a (subst (In a) (sym is.awaits) (inl refl)))) j a xs is.awaits p goes));
    leaves = λ is e.
        done (quiet (record c { due = all_due c.due c.held })) (record { usable = f.usable; call = f.call; outcome = tt })
        refl refl;
    resends = λ is e. k;
  }

  pub step_dealt : ClientDealt n (step c i).client
  step_dealt = each_turn c i (λ (s : Step). s ≡ step c i → ClientDealt n s.client) cases refl
