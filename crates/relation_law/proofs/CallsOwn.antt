-- A client's own turn: behind all its lines the machine has of the client what it has.
-- Towards `CallsGoOn` (`specs/Steps.antt`).
use Rattle.std.proofs.Common.{◌≡◌, ◌==◌, ◌&&◌, not, ℕ, Bool, true, false, List, [], Option, Some, None, Ok, Err, refl, sym, ap, subst, ◌∙◌, inl, inr, if◌then◌else◌}
use Rattle.std.specs.Prelude.{is_some}
use Rattle.std.proofs.lemmas.Bool.{cases_Bool, eq-eqb}
use Rattle.std.proofs.lemmas.List.{append-nil}
use Rattle.data_map.specs.declared.check.RawMap.{RawMap}
use Rattle.layout_ops.specs.declared.messages.Answer.{Answer}
use Rattle.osd_commands.specs.declared.replies.Reply.{Reply}
use Rattle.server_rules.specs.Laws.{last_of}
use Rattle.client_rules.specs.Calls.{file_of, span_of}
use Rattle.client_rules.specs.Going.{quiet, moved, begun}
use Rattle.client_rules.specs.Grants.{held_of}
use Rattle.osd_lists.specs.declared.node.Node.{Node}
use Rattle.osd_lists.specs.declared.node.Node.TheVariants.{Drive as FromDrive}
use Rattle.client_rules.specs.History.{Input, Calls, Hears, Leaves, Resends, unless_refused, step}
use Rattle.client_rules.specs.Messages.{Step, Message, Replies, still, finished, on_call, obeys, no_match}
use Rattle.client_rules.specs.Replies.{answers, replied, timed_out}
use Rattle.client_rules.specs.Steps.{all_due, calls, is_bad_range, is_spent, writes_nothing}
use Rattle.history_law.specs.Turns.{IsReplied, IsTimed, AnswerComes, with_start}
use Rattle.world_history.specs.ServerNames.{Slot}
use Rattle.world_history.specs.ClientNames.{Client, Call, CallOp, Held, Request, Awaited, Need, Phase, Starts, Needs, Waits, Reads, Probes, Gathers, Scatters, WriteOk, Moved, Done, Busy, BadRange, SlotSpent}
use Rattle.world_history.specs.Handed.{op_in, pending_op}
use Rattle.fence_law.specs.State.{State, Event}
use Rattle.fence_law.specs.Machine.{after_all}
use Rattle.fence_law.proofs.Formed.{Formed}
use Rattle.fence_law.proofs.Slots.{Slots}
use Rattle.fence_law.proofs.Holds.{Holds}
use Rattle.fence_law.proofs.Safe.{Safe}
use Rattle.file_simulation.specs.EventLists.{where_so}
use Rattle.file_simulation.specs.Events.{joined}
use Rattle.file_simulation.specs.ClientEvents as table
use Rattle.file_simulation.specs.Requests.{kept_for, kept_by, IsOutstanding}
use Rattle.file_simulation.specs.Calls.{IsIdle, IsClient, CallIs, CallOn, CallAt, HeldIs, reports_on, waits_report}
use Rattle.relation_law.specs.CallsTurns.{PhasePends, PhaseOn, EndIs, PendsAt, IsMid, NeedHas, ReplyFits, TimeFits}
use Rattle.relation_law.specs.CallsCases.{EventCases, IsUnheld, IsTurn, Begins, Answered, Replied, Timed, Stays}
use Rattle.relation_law.specs.CallsFits.{AnswerFits}
use Rattle.relation_law.proofs.CallsMid.{AsksOfBegin, held_plain}
use Rattle.relation_law.proofs.CallsHeard.{found_working, timed_working, moved_out, call_out, reply_any, time_any}
use Rattle.relation_law.proofs.CallsReceived.{answered_mid}
use Rattle.relation_law.proofs.CallsWhole.{AsksOfEnd, told_end, whole_turn}
use Rattle.relation_law.proofs.CallsWalk.{each_event_turn}

-- ---- a client as it is

-- with nothing that is still to be sent
pub pends_all : (m : RawMap) (s : State) (c : ℕ) (op : CallOp) (o : Option Answer) (p : Phase) → CallIs m s c op o p →
    PhasePends m s c op o [] p
pends_all m s c op o Starts w = (refl, w)
pends_all m s c op o (Needs n) w = (refl, w)
pends_all m s c op o (Waits n) w = (refl, w)
pends_all m s c op o (Reads io) w = inl w
pends_all m s c op o (Probes io) w = inl w
pends_all m s c op o (Gathers io) w = inl w
pends_all m s c op o (Scatters io queue) w =
    inl (record { entry = w.0; before = io.awaited; awaited = sym (append-nil io.awaited); scattering = w.1 })

module _ (file : ℕ) (m : RawMap) (c : ℕ) (s : State) (x : Client) (slot : Option Slot)
    (k : IsClient file m s c x (kept_for slot x.outstanding)) (i : Input) where
  abbrev o : Option Answer
  o = kept_for slot x.outstanding

  -- ---- nothing comes to the call

  -- what the call needs of the server it needs under its grant
  abbrev pub HasNeeds : Type 0
  HasNeeds =
      (op : CallOp) (n : Need) → x.call ≡ Some (record { op = op; phase = Needs n }) → (file_of op == file) ≡ true →
      NeedHas n (held_of x.held file)

  -- the call that is pending
  pub about_call : (call : Call) → x.call ≡ Some call → pending_op x ≡ Some call.op
  about_call call is = rw is refl

  pends : (p : Option CallOp) → PendsAt file m s c o p None [] x.call
  pends p = by_call x.call refl
    where
      on_by : (b : Bool) (call : Call) → CallOn b m s c call o → PhaseOn b m s c call o []
      on_by true call w = pends_all m s c call.op o call.phase w
      on_by false call w = w

      at_end : (q : Option CallOp) → IsIdle s c → EndIs file s c q None
      at_end None w = w
      at_end (Some q) w = w

      at_call : (z : Option Call) → x.call ≡ z → CallAt file m s c o z
      at_call z e = subst (λ y. CallAt file m s c o y) e k.call

      by_call : (z : Option Call) → x.call ≡ z → PendsAt file m s c o p None [] x.call
      by_call None e = rw e (at_end p (at_call None e))
      by_call (Some call) e = rw e (on_by (file_of call.op == file) call (at_call (Some call) e))

  -- with other grants that are due, and answers to recalls
  pub as_it_is : HasNeeds → (d : Done) → d.client.call ≡ x.call → d.client.outstanding ≡ x.outstanding → d.client.held ≡ x.held →
      d.outcome ≡ None → d.requests ≡ [] → d.commands ≡ [] → IsMid file m s c o (pending_op x) d
  as_it_is has d call out held none unasked quiet_ = record {
    held = rw held (held_same d.client call out);
    call = rw (call, none, quiet_) (pends (pending_op x));
    fresh = k.fresh;
    used = k.used;
    about = λ z e. about_call z (sym call ∙ e);
    ended = λ u e. absurd (cc (sym none ∙ e));
    unasked = unasked;
    needs = λ p n e b. rw held (has p n (sym call ∙ e) b);
  }
    where
      held_same : (z : Client) → z.call ≡ x.call → z.outstanding ≡ x.outstanding → HeldIs file m s c z o (held_of x.held file)
      held_same z e f = by_held (held_of x.held file) k.held
        where
          by_held : (h : Option Held) → HeldIs file m s c x o h → HeldIs file m s c z o h
          by_held (Some h) w = w
          by_held None w = rw (e, f) w

  -- ---- a call begins

  pub starts : (op : CallOp) → x.call ≡ None → IsMid file m s c o (Some op) (quiet (with_start x op))
  starts op none = record {
    held =
        held_plain file m s c x (with_start x op) o o (held_of x.held file) (ap (reports_on file) none)
        (plain (file_of op == file)) k.held;
    call = on_by (file_of op == file);
    fresh = k.fresh;
    used = k.used;
    about = λ call e. ap (λ (z : Call). Some z.op) (same_call (record { op = op; phase = Starts }) call e);
    ended = λ u e. absurd (cc e);
    unasked = refl;
    needs =
        λ p n e b. absurd (starts_needs n (phase_same (record { op = op; phase = Starts }) (record {
          op = p;
          phase = Needs n;
        }) e));
  }
    where
      idle : IsIdle s c
      idle = subst (λ z. CallAt file m s c o z) none k.call

      plain : (b : Bool) → (b && waits_report Starts) ≡ false
      plain true = refl
      plain false = refl

      on_by : (b : Bool) → PhaseOn b m s c (record { op = op; phase = Starts }) o []
      on_by true = (refl, idle)
      on_by false = idle

      same_call : (y z : Call) → Some y ≡ Some z → y ≡ z
      same_call y z q = cc q

      phase_same : (y z : Call) → Some y ≡ Some z → y.phase ≡ z.phase
      phase_same y z q = cc q

      starts_needs : (n : Need) → Starts ≡ Needs n → ⊥
      starts_needs n q = cc q

  -- What is asked of the begin and the end of the turn, behind the events of its first line.
  pub record EndsWell (es : List Event) (d : Done)
      (w : IsMid file m (after_all s es) c (kept_for slot d.client.outstanding) (op_in x i) d) : Type 0 where
    pub begin : AsksOfBegin file m c (kept_for slot d.client.outstanding) (after_all s es) (op_in x i) d w
    pub formed : Formed (after_all s es)
    pub holding : Holds (told_end file m c slot (after_all s es) (op_in x i) d w begin (begun d).outcome)
    pub slots : Slots (told_end file m c slot (after_all s es) (op_in x i) d w begin (begun d).outcome)
    pub end : AsksOfEnd file m c slot (after_all s es) (op_in x i) d w begin

  -- What is asked of the client and its turn.
  pub record OwnFits : Type 0 where
    pub safe : Safe s
    pub has : HasNeeds
    pub unheld : IsUnheld x i → ⊥
    pub answered : (a : Answer) (r : Request) → AnswerComes x i a → x.outstanding ≡ Some r →
        (kept_by slot r ≡ Some a) × IsOutstanding file m s slot c x r × (s.slot c ≡ last_of slot) × AnswerFits file x a r
    pub replied : (drive : ℕ) (q : Reply) (call : Call) (h : Held) (a : Awaited) → IsReplied x i drive q call h a →
        (file_of call.op == file) ≡ true → ReplyFits h call.op call.phase a
    pub timed : (n : ℕ) (call : Call) (h : Held) (a : Awaited) (xs : List Awaited) → IsTimed x i n call h a xs →
        (file_of call.op == file) ≡ true → TimeFits h call.op call.phase a xs
    pub ends : (es : List Event) → table.at_first s file c x i ≡ es → (d : Done) → step x i ≡ finished d →
        IsTurn file s c x i es d → (w : IsMid file m (after_all s es) c (kept_for slot d.client.outstanding) (op_in x i) d) →
        EndsWell es d w

  module _ (fits : OwnFits) where
    -- behind the turn
    abbrev pub IsGone : List Event → Step → Type 0
    IsGone es t = IsClient file m
        (after_all (after_all s es) (joined (table.at_end (after_all s es) file c (op_in x i) t))) c t.client
        (kept_for slot t.client.outstanding)

    -- it is what the client does, and nothing is sent again
    abbrev Goes_ : List Event → Step → Type 0
    Goes_ es t = (i ≡ Resends → ⊥) → table.at_first s file c x i ≡ es → step x i ≡ t → IsGone es t

    finish : (es : List Event) (d : Done) → IsTurn file s c x i es d →
        IsMid file m (after_all s es) c (kept_for slot d.client.outstanding) (op_in x i) d → Goes_ es (finished d)
    finish es d turn w none first is =
        let e : EndsWell es d w = fits.ends es first d is turn w in
        whole_turn file m c slot (after_all s es) (op_in x i) d w e.begin e.formed e.holding e.slots e.end

    -- ---- by what comes

    -- the machine's answer is the same where the outstanding request is
    pub as_out : (es : List Event) (op : Option CallOp) (d : Done) (q : Option Answer) → kept_for slot d.client.outstanding ≡ q →
        op ≡ op_in x i → IsMid file m (after_all s es) c q op d →
        IsMid file m (after_all s es) c (kept_for slot d.client.outstanding) (op_in x i) d
    as_out es op d q e f w =
        subst (λ z. IsMid file m (after_all s es) c z (op_in x i) d) (sym e)
        (subst (λ p. IsMid file m (after_all s es) c q p d) f w)

    pub heard_op : (from : Node) (b : Message) → i ≡ Hears from b → pending_op x ≡ op_in x i
    heard_op from b is = rw is refl

    answer_goes : (a : Answer) → (n : AnswerComes x i a) →
        Goes_ (table.answered s file c x a x.outstanding) (finished (on_call (quiet (record x { outstanding = None })) x.call a))
    answer_goes a n =
        let f = fits.answered a n.request n n.outstanding in
        let kept : kept_for slot x.outstanding ≡ Some a = ap (kept_for slot) n.outstanding ∙ f.0 in
        let client : IsClient file m s c x (Some a) = subst (λ z. IsClient file m s c x z) kept k in
        let d : Done = on_call (quiet (record x { outstanding = None })) x.call a in
        let w : IsMid file m (after_all s (table.answered s file c x a (Some n.request))) c None (pending_op x) d =
        answered_mid file m c s fits.safe.slots fits.safe.holds fits.safe.calls x slot a n.request f.0 client f.1 f.2 f.3 in
        let out : kept_for slot d.client.outstanding ≡ None =
        ap (kept_for slot) (call_out (quiet (record x { outstanding = None })) a x.call) in
        finish (table.answered s file c x a x.outstanding) d (Answered a n refl refl)
        (as_out (table.answered s file c x a x.outstanding) (pending_op x) d None out (heard_op n.from n.message n.is)
        (subst (λ r. IsMid file m (after_all s (table.answered s file c x a r)) c None (pending_op x) d) (sym n.outstanding) w))

    reply_goes : (drive : ℕ) (q : Reply) (call : Call) (h : Held) (a : Awaited) → IsReplied x i drive q call h a →
        Goes_ (where_so (file_of call.op == file) (table.replied s c a q call.phase))
        (finished (moved (quiet x) call.op (replied h call.op call.phase a q)))
    reply_goes drive q call h a n =
        let d : Done = moved (quiet x) call.op (replied h call.op call.phase a q) in
        let es : List Event = where_so (file_of call.op == file) (table.replied s c a q call.phase) in
        let w : IsMid file m (after_all s es) c o (Some call.op) d =
        reply_any file m c s x slot k call n.call_is h n.held (found_working call.phase (answers drive q) a n.awaits) a q
        (fits.replied drive q call h a n) (file_of call.op == file) refl in
        finish es d (Replied drive q call h a n refl refl)
        (as_out es (Some call.op) d o (ap (kept_for slot) (moved_out x call.op (replied h call.op call.phase a q)))
        (sym (about_call call n.call_is) ∙ heard_op (FromDrive drive) (Replies q) n.is) w)

    time_goes : (n : ℕ) (call : Call) (h : Held) (a : Awaited) (xs : List Awaited) → IsTimed x i n call h a xs →
        Goes_ (where_so (file_of call.op == file) (table.turned s c (timed_out h call.op call.phase n a xs).turn))
        (finished (moved (quiet x) call.op (timed_out h call.op call.phase n a xs)))
    time_goes n call h a xs t =
        let mv : Moved = timed_out h call.op call.phase n a xs in
        let d : Done = moved (quiet x) call.op mv in
        let es : List Event = where_so (file_of call.op == file) (table.turned s c mv.turn) in
        let w : IsMid file m (after_all s es) c o (Some call.op) d =
        time_any file m c s x slot k call t.call_is h t.held (timed_working call.phase n a xs t.awaits) n a xs t.awaits
        (fits.timed n call h a xs t) (file_of call.op == file) refl in
        finish es d (Timed n call h a xs t refl refl) (as_out es (Some call.op) d o (ap (kept_for slot) (moved_out x call.op mv))
        (sym (about_call call t.call_is) ∙ timed_op) w)
      where
        timed_op : pending_op x ≡ op_in x i
        timed_op = rw t.is refl

    -- a write of no byte is over, and has no event
    none_so : (n : ℕ) (es : List Event) → n ≡ 0 → where_so (not (n == 0)) es ≡ []
    none_so n es e = rw (eq-eqb n 0 e) refl

    pub nothing_told : (op : Option CallOp) → table.ended s file c op (Some (WriteOk 0)) ≡ []
    nothing_told None = refl
    nothing_told (Some op) = elim (cases_Bool (file_of op == file)) [
      | inl t ↦ rw t (none_so 0 (table.write_told s c) refl)
      | inr n ↦ rw n refl
    ]

    pub called_op : (op : CallOp) → i ≡ Calls op → Some op ≡ op_in x i
    called_op op is = rw is refl

    pub left_op : i ≡ Leaves → pending_op x ≡ op_in x i
    left_op is = rw is refl

    rests : Goes_ [] (still x)
    unfolding table.sends_all
    rests none first is = k

    nothing_goes : Goes_ [] (record (still x) { outcome = Some (WriteOk 0) })
    unfolding table.sends_all
    nothing_goes none first is = rw (nothing_told (op_in x i)) k

    -- so it is whether such a call is refused or not
    empty_gone : (op : CallOp) → i ≡ Calls op → writes_nothing op ≡ true → IsGone [] (step x i)
    unfolding calls table.sends_all
    empty_gone op is e =
        subst (IsGone []) (sym (ap (step x) is))
        (by_tests (is_some x.call) (is_bad_range (span_of op)) (is_spent x.next) (writes_nothing op) e)
      where
        by_tests : (a b z n : Bool) → n ≡ true → IsGone []
            (unless_refused x (if a then Err Busy else if b then Err BadRange else if z then Err SlotSpent
            else Ok (if n then record (still x) { outcome = Some (WriteOk 0) } else finished (quiet (with_start x op)))))
        by_tests true b z n t = k
        by_tests false true z n t = k
        by_tests false false true n t = k
        by_tests false false false true t = rw (nothing_told (op_in x i)) k
        by_tests false false false false t = absurd (cc t)

    cases : EventCases file s c x i Goes_
    cases = record {
      rests = rests;
      nothing = λ op is n. nothing_goes;
      called = λ op is none. elim (cases_Bool (writes_nothing op)) [
        | inl empty ↦ λ rs first at. subst (IsGone []) at (empty_gone op is empty)
        | inr some ↦ finish [] (quiet (with_start x op)) (Begins op is none some refl refl)
            (as_out [] (Some op) (quiet (with_start x op)) o refl (called_op op is) (starts op none))
      ];
      answered = answer_goes;
      replied = reply_goes;
      unheld = λ u es t. absurd (fits.unheld u);
      recalled = λ q is. finish [] (obeys x q) (Stays refl refl refl refl refl refl refl)
          (as_out [] (pending_op x) (obeys x q) o refl (heard_op _ _ is)
          (as_it_is fits.has (obeys x q) refl refl refl refl refl refl));
      unmatched = λ q is. finish [] (no_match x q) (Stays refl refl refl refl refl refl refl)
          (as_out [] (pending_op x) (no_match x q) o refl (heard_op _ _ is)
          (as_it_is fits.has (no_match x q) refl refl refl refl refl refl));
      timed = time_goes;
      leaves = λ is. finish [] (quiet (record x { due = all_due x.due x.held })) (Stays refl refl refl refl refl refl refl)
          (as_out [] (pending_op x) (quiet (record x { due = all_due x.due x.held })) o refl (left_op is)
          (as_it_is fits.has (quiet (record x { due = all_due x.due x.held })) refl refl refl refl refl refl));
      resends = λ is es t none. absurd (none is);
    }

    -- Behind each turn of the client the machine has of it what it has.
    pub own_turn : (i ≡ Resends → ⊥) → IsGone (table.at_first s file c x i) (step x i)
    own_turn none = each_event_turn file s c x i Goes_ cases none refl refl
