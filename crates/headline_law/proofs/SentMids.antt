-- What is so of each turn of a client where it is so behind its first line, with what the machine has of the client there.
-- Towards `SentGoesOn` and `ReadsFollow` (`relation_law/specs/Steps.antt`, `headline_law/specs/Parts.antt`).
use Rattle.std.proofs.Common.{◌≡◌, ◌==◌, ℕ, Bool, true, false, List, [], Option, Some, None, Ok, Err, refl, sym, ap, subst, ◌∙◌, inl, inr, if◌then◌else◌}
use Rattle.std.specs.Prelude.{is_some}
use Rattle.std.proofs.lemmas.Bool.{cases_Bool}
use Rattle.data_map.specs.declared.check.RawMap.{RawMap}
use Rattle.layout_ops.specs.declared.messages.Answer.{Answer}
use Rattle.osd_commands.specs.declared.replies.Reply.{Reply}
use Rattle.osd_lists.specs.declared.node.Node.TheVariants.{Drive as FromDrive}
use Rattle.client_rules.specs.Calls.{file_of, span_of}
use Rattle.client_rules.specs.Going.{quiet, moved}
use Rattle.client_rules.specs.History.{Input, Calls, Resends, unless_refused, step}
use Rattle.client_rules.specs.Messages.{Step, Replies, still, finished, on_call, obeys, no_match}
use Rattle.client_rules.specs.Replies.{answers, replied, timed_out}
use Rattle.client_rules.specs.Steps.{all_due, calls, is_bad_range, is_spent, writes_nothing}
use Rattle.history_law.specs.Turns.{IsReplied, IsTimed, AnswerComes, with_start}
use Rattle.world_history.specs.ServerNames.{Slot}
use Rattle.world_history.specs.ClientNames.{Client, Call, CallOp, Held, Awaited, WriteOk, Moved, Done, Busy, BadRange, SlotSpent}
use Rattle.world_history.specs.Handed.{op_in, pending_op}
use Rattle.fence_law.specs.State.{State, Event}
use Rattle.fence_law.specs.Machine.{after_all}
use Rattle.file_simulation.specs.EventLists.{where_so}
use Rattle.file_simulation.specs.ClientEvents as table
use Rattle.file_simulation.specs.Requests.{kept_for}
use Rattle.file_simulation.specs.Calls.{IsClient}
use Rattle.relation_law.specs.CallsTurns.{IsMid}
use Rattle.relation_law.specs.CallsCases.{EventCases, IsTurn, Begins, Answered, Replied, Timed, Stays}
use Rattle.relation_law.proofs.CallsHeard.{found_working, timed_working, moved_out, call_out, reply_any, time_any}
use Rattle.relation_law.proofs.CallsOwn.{OwnFits, about_call, as_it_is, as_out, called_op, heard_op, left_op, starts}
use Rattle.relation_law.proofs.CallsReceived.{answered_mid}
use Rattle.relation_law.proofs.CallsWalk.{each_event_turn}

module _ (file : ℕ) (m : RawMap) (c : ℕ) (s : State) (x : Client) (slot : Option Slot)
    (k : IsClient file m s c x (kept_for slot x.outstanding)) (i : Input) (fits : OwnFits file m c s x slot k i)
    (R : List Event → Step → Type 0) where
  -- R of the turn and the events of its first line: where nothing happens, and where the rest of the turn is done behind them.
  pub record MidCases : Type 0 where
    pub rests : R [] (still x)
    pub nothing : R [] (record (still x) { outcome = Some (WriteOk 0) })
    pub done : (es : List Event) (d : Done) → table.at_first s file c x i ≡ es → step x i ≡ finished d →
        IsTurn file s c x i es d → IsMid file m (after_all s es) c (kept_for slot d.client.outstanding) (op_in x i) d →
        R es (finished d)

  module _ (r : MidCases) where
    abbrev o : Option Answer
    o = kept_for slot x.outstanding

    abbrev Goes : List Event → Step → Type 0
    Goes es t = (i ≡ Resends → ⊥) → table.at_first s file c x i ≡ es → step x i ≡ t → R es t

    finish : (es : List Event) (d : Done) → IsTurn file s c x i es d →
        IsMid file m (after_all s es) c (kept_for slot d.client.outstanding) (op_in x i) d → Goes es (finished d)
    finish es d turn w none first is = r.done es d first is turn w

    -- a call of no byte is over, if it isn't refused
    empty_goes : (op : CallOp) → i ≡ Calls op → writes_nothing op ≡ true → R [] (step x i)
    unfolding calls
    empty_goes op is e =
        subst (R []) (sym (ap (step x) is))
        (by_tests (is_some x.call) (is_bad_range (span_of op)) (is_spent x.next) (writes_nothing op) e)
      where
        by_tests : (a b z n : Bool) → n ≡ true → R []
            (unless_refused x (if a then Err Busy else if b then Err BadRange else if z then Err SlotSpent
            else Ok (if n then record (still x) { outcome = Some (WriteOk 0) } else finished (quiet (with_start x op)))))
        by_tests true b z n t = r.rests
        by_tests false true z n t = r.rests
        by_tests false false true n t = r.rests
        by_tests false false false true t = r.nothing
        by_tests false false false false t = absurd (cc t)

    called_goes : (op : CallOp) → i ≡ Calls op → x.call ≡ None → Goes [] (finished (quiet (with_start x op)))
    called_goes op is none = elim (cases_Bool (writes_nothing op)) [
      | inl empty ↦ λ rs first at. subst (R []) at (empty_goes op is empty)
      | inr some ↦ finish [] (quiet (with_start x op)) (Begins op is none some refl refl)
          (as_out file m c s x slot k i fits [] (Some op) (quiet (with_start x op)) o refl
          (called_op file m c s x slot k i fits op is) (starts file m c s x slot k i op none))
    ]

    answer_goes : (a : Answer) → (n : AnswerComes x i a) →
        Goes (table.answered s file c x a x.outstanding) (finished (on_call (quiet (record x { outstanding = None })) x.call a))
    answer_goes a n =
        let f = fits.answered a n.request n n.outstanding in
        let kept : kept_for slot x.outstanding ≡ Some a = ap (kept_for slot) n.outstanding ∙ f.0 in
        let client : IsClient file m s c x (Some a) = subst (λ z. IsClient file m s c x z) kept k in
        let d : Done = on_call (quiet (record x { outstanding = None })) x.call a in
        let w : IsMid file m (after_all s (table.answered s file c x a (Some n.request))) c None (pending_op x) d =
        answered_mid file m c s fits.safe.slots fits.safe.holds fits.safe.calls x slot a n.request f.0 client f.1 f.2 f.3 in
        let out : kept_for slot d.client.outstanding ≡ None =
        ap (kept_for slot) (call_out (quiet (record x { outstanding = None })) a x.call) in
        finish (table.answered s file c x a x.outstanding) d (Answered a n refl refl)
        (as_out file m c s x slot k i fits (table.answered s file c x a x.outstanding) (pending_op x) d None out
        (heard_op file m c s x slot k i fits n.from n.message n.is)
        (subst (λ r. IsMid file m (after_all s (table.answered s file c x a r)) c None (pending_op x) d) (sym n.outstanding) w))

    reply_goes : (drive : ℕ) (q : Reply) (call : Call) (h : Held) (a : Awaited) → IsReplied x i drive q call h a →
        Goes (where_so (file_of call.op == file) (table.replied s c a q call.phase))
        (finished (moved (quiet x) call.op (replied h call.op call.phase a q)))
    reply_goes drive q call h a n =
        let d : Done = moved (quiet x) call.op (replied h call.op call.phase a q) in
        let es : List Event = where_so (file_of call.op == file) (table.replied s c a q call.phase) in
        let w : IsMid file m (after_all s es) c o (Some call.op) d =
        reply_any file m c s x slot k call n.call_is h n.held (found_working call.phase (answers drive q) a n.awaits) a q
        (fits.replied drive q call h a n) (file_of call.op == file) refl in
        finish es d (Replied drive q call h a n refl refl)
        (as_out file m c s x slot k i fits es (Some call.op) d o
        (ap (kept_for slot) (moved_out x call.op (replied h call.op call.phase a q)))
        (sym (about_call file m c s x slot k i call n.call_is)
        ∙ heard_op file m c s x slot k i fits (FromDrive drive) (Replies q) n.is) w)

    time_goes : (n : ℕ) (call : Call) (h : Held) (a : Awaited) (xs : List Awaited) → IsTimed x i n call h a xs →
        Goes (where_so (file_of call.op == file) (table.turned s c (timed_out h call.op call.phase n a xs).turn))
        (finished (moved (quiet x) call.op (timed_out h call.op call.phase n a xs)))
    time_goes n call h a xs t =
        let mv : Moved = timed_out h call.op call.phase n a xs in
        let d : Done = moved (quiet x) call.op mv in
        let es : List Event = where_so (file_of call.op == file) (table.turned s c mv.turn) in
        let w : IsMid file m (after_all s es) c o (Some call.op) d =
        time_any file m c s x slot k call t.call_is h t.held (timed_working call.phase n a xs t.awaits) n a xs t.awaits
        (fits.timed n call h a xs t) (file_of call.op == file) refl in
        finish es d (Timed n call h a xs t refl refl)
        (as_out file m c s x slot k i fits es (Some call.op) d o (ap (kept_for slot) (moved_out x call.op mv))
        (sym (about_call file m c s x slot k i call t.call_is) ∙ rw t.is refl) w)

    -- where the call and what is held stay
    stay_goes : (d : Done) → d.client.call ≡ x.call → d.client.outstanding ≡ x.outstanding → d.client.held ≡ x.held →
        d.client.next ≡ x.next → d.outcome ≡ None → d.requests ≡ [] → d.commands ≡ [] → pending_op x ≡ op_in x i →
        Goes [] (finished d)
    stay_goes d call out held next none unasked quiet_ about =
        finish [] d (Stays refl call held out next quiet_ none)
        (as_out file m c s x slot k i fits [] (pending_op x) d o (ap (kept_for slot) out) about
        (as_it_is file m c s x slot k i fits.has d call out held none unasked quiet_))

    cases : EventCases file s c x i Goes
    cases = record {
      rests = λ none first is. r.rests;
      nothing = λ op is n none first at. r.nothing;
      called = called_goes;
      answered = answer_goes;
      replied = reply_goes;
      unheld = λ u es t. absurd (fits.unheld u);
      recalled = λ q is. stay_goes (obeys x q) refl refl refl refl refl refl refl
          (heard_op file m c s x slot k i fits _ _ is);
      unmatched = λ q is. stay_goes (no_match x q) refl refl refl refl refl refl refl
          (heard_op file m c s x slot k i fits _ _ is);
      timed = time_goes;
      leaves = λ is. stay_goes (quiet (record x { due = all_due x.due x.held })) refl refl refl refl refl refl refl
          (left_op file m c s x slot k i fits is);
      resends = λ is es t none. absurd (none is);
    }

    -- so it is of each turn
    pub each_mid : (i ≡ Resends → ⊥) → R (table.at_first s file c x i) (step x i)
    each_mid none = each_event_turn file s c x i Goes cases none refl refl
