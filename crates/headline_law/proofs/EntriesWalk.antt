-- Each turn of a client is tied to the entries of a file.
-- Towards `CutsShowEntries` (`specs/Parts.antt`).
use Rattle.std.proofs.Common.{◌≡◌, ◌==◌, ◌++◌, ◌<◌, ◌+◌, ◌-◌, ℕ, min, Bool, true, false, List, [], map, Option, Some, None, refl, sym, ap, subst, ◌∙◌, inl, inr}
use Rattle.std.specs.Prelude.{option_map}
use Rattle.std.proofs.lemmas.Bool.{eqb-true, ne_eqb}
use Rattle.data_map.specs.declared.check.RawMap.{RawMap}
use Rattle.file_log.specs.Judge.{byte_for}
use Rattle.layout_ops.specs.declared.messages.Answer.{Answer}
use Rattle.layout_types.specs.declared.ioerrs.IoErr.{IoErr}
use Rattle.osd_commands.specs.declared.replies.Reply.{Reply}
use Rattle.client_rules.specs.Calls.{file_of, span_of, bytes_of, is_write}
use Rattle.client_rules.specs.Going.{quiet, moved, begun, by_turn, with_held, progressed}
use Rattle.client_rules.specs.Grants.{held_of, covers}
use Rattle.client_rules.specs.History.{Input, Calls, Resends, step}
use Rattle.client_rules.specs.Messages.{Step, still, finished, to_drive}
use Rattle.client_rules.specs.Replies.{replied, timed_out, answers}
use Rattle.client_rules.specs.Steps.{writes_nothing}
use Rattle.history_law.specs.Turns.{IsReplied, IsTimed, AnswerComes, with_start}
use Rattle.world_history.specs.ClientNames as client_rules
use Rattle.world_history.specs.ClientNames.{Client, Call, CallOp, Held, Awaited, Request, RecallAnswer, Moved, Done, Close, Phase, Starts, Needs, Waits, Reads, Probes, Gathers, Scatters, Outcome, WriteOk, Turn, Goes, Ends, Forgets, AnswersRecall, Asks}
use Rattle.world_history.specs.Handed.{op_in, pending_op}
use Rattle.fence_law.specs.Machine.{after_all}
use Rattle.fence_law.specs.State.{State, Event}
use Rattle.fence_law.specs.State.Call.{Idle, Writes as AtWrite, Reads as AtRead}
use Rattle.fence_law.proofs.Formed.{Formed}
use Rattle.file_simulation.specs.Calls.{CallAt, CallOn, CallIs, IsReading, IsWriteOf}
use Rattle.file_simulation.specs.ClientEvents as table
use Rattle.file_simulation.specs.EventLists.{entry_in, entry_of, where_so}
use Rattle.file_simulation.specs.Showing.{Pairs, IsPair}
use Rattle.relation_law.specs.CallsCases.{IsUnheld}
use Rattle.relation_law.specs.CallsFits.{AnswerFits}
use Rattle.relation_law.specs.CallsTurns.{IsWorking, WritesSome, ReadsWait}
use Rattle.relation_law.specs.Returns.{EndsBadly}
use Rattle.relation_law.proofs.CallsEnded.{write_some, no_byte}
use Rattle.relation_law.proofs.CallsHeard.{found_working, timed_working}
use Rattle.relation_law.proofs.MessagesClients.{IsFit}
use Rattle.relation_law.proofs.MessagesAlways.{Any, replied_done, timed_done, has_bytes}
use Rattle.relation_law.proofs.MessagesRun.{CallFits, IsFine, FineDone, call_bytes}
use Rattle.relation_law.proofs.TurnEnds.{writes_some, reads_wait}
use Rattle.file_simulation.specs.Tied.{HasEntry, PhaseTied, CallTied}
use Rattle.headline_law.proofs.EntriesDone.{CallGoes, MayBegin, turn_done, HoldsFor, finish_tied}
use Rattle.headline_law.proofs.EntriesEnds.{OutcomeTied}
use Rattle.headline_law.proofs.EntriesMoved.{Runs, RunsRead, GathersSome, TimedSome, TurnTo, MovedTo, replied_to, timed_to}
use Rattle.headline_law.proofs.EntriesTurns.{TurnTied}

module _ (file : ℕ) (m : RawMap) (s : State) (c : ℕ) (x : Client) (i : Input) (pairs : Pairs) (o : Option ℕ)
    (answer : Option Answer) where
  -- What is known of a client and the machine before its turn. `o` is the entry of its call in the log.
  pub record WalkFacts : Type 0 where
    pub tie : CallTied s file c pairs o x.call
    pub fresh : (op : CallOp) → i ≡ Calls op → (o ≡ None) × (x.call ≡ None)
    pub again : i ≡ Resends → ⊥
    pub fine : IsFine x
    pub formed : Formed s
    pub call : CallAt file m s c answer x.call
    pub size : (h : Held) → held_of x.held file ≡ Some h → s.known_size c ≡ h.size
    pub unheld : IsUnheld x i → ⊥
    pub answered : (a : Answer) (r : Request) → AnswerComes x i a → x.outstanding ≡ Some r → AnswerFits file x a r
    pub closed : (op : CallOp) (u : Outcome) (report : List IoErr) →
        x.call ≡ Some (record { op = op; phase = Waits (Close u report) }) → EndsBadly u
    pub gathers : (call : Call) (h : Held) → x.call ≡ Some call → held_of x.held (file_of call.op) ≡ Some h →
        GathersSome h call.op call.phase
    pub times : (call : Call) (h : Held) (a : Awaited) (xs : List Awaited) → x.call ≡ Some call →
        held_of x.held (file_of call.op) ≡ Some h → TimedSome h call.op call.phase a xs
    pub commands : (call : Call) → (step x i).client.call ≡ Some call → (file_of call.op == file) ≡ true →
        IsWorking call.phase → (rs : List RecallAnswer) (qs : List Request) (cs : List Awaited) →
        (step x i).sends ≡ map AnswersRecall rs ++ (map Asks qs ++ map to_drive cs) →
        HoldsFor file c (after_all s (table.at_first s file c x i)) pairs o (op_in x i) (step x i).client call cs

  module _ (facts : WalkFacts) where
    -- behind these events, if they are those of the turn's first line
    abbrev pub Tied_ : List Event → Step → Type 0
    Tied_ es t = step x i ≡ t → table.at_first s file c x i ≡ es → TurnTied file c (after_all s es) pairs o (op_in x i) t

    pub finish : (es : List Event) (d : Done) → MayBegin file c (after_all s es) pairs o (op_in x i) d → Tied_ es (finished d)
    unfolding finished
    finish es d k is at_ =
        finish_tied file c (after_all s es) pairs o (op_in x i) d k (λ call there here works.
        subst (λ (l : List Event). HoldsFor file c (after_all s l) pairs o (op_in x i) (finished d).client call
        (progressed (begun d)).commands) at_
        (subst (λ (z : Step). HoldsFor file c (after_all s (table.at_first s file c x i)) pairs o (op_in x i) z.client call
        (progressed (begun d)).commands) is
        (facts.commands call (ap (λ (z : Step). z.client.call) is ∙ there) here works (progressed (begun d)).recalls
        (progressed (begun d)).requests (progressed (begun d)).commands (ap (λ (z : Step). z.sends) is))))

    -- ---- nothing happens

    pub still_tied : TurnTied file c s pairs o (op_in x i) (still x)
    still_tied = record {
      ended = λ u p e f here. absurd (cc e);
      recalls = [];
      requests = [];
      commands = [];
      sends = refl;
      over = λ u e. absurd (cc e);
      about = λ u e. absurd (cc e);
      goes = λ call there here.
          inl (refl, subst (CallTied s file c pairs o) there facts.tie here, λ works. refl);
    }

    pub nothing_done : (op : CallOp) → i ≡ Calls op →
        TurnTied file c s pairs o (op_in x i) (record (still x) { outcome = Some (WriteOk 0) })
    nothing_done op is = record {
      ended = λ u p e f here.
          let one : WriteOk 0 ≡ u = cc e in
          subst (λ (y : Outcome). OutcomeTied s c p pairs o y) one (inl (refl, (facts.fresh op is).0));
      recalls = [];
      requests = [];
      commands = [];
      sends = refl;
      over = λ u e. (facts.fresh op is).1;
      about = λ u e. (op, rw is refl);
      goes = λ call there here. absurd (cc (sym (facts.fresh op is).1 ∙ there));
    }

    -- ---- what the call needs at its begin

    pub begins_by : (d : Done) → FineDone Any d → (op : CallOp) (h : Held) →
        d.client.call ≡ Some (record { op = op; phase = Starts }) → held_of d.client.held (file_of op) ≡ Some h →
        covers h op ≡ true → (is_write op ≡ true → WritesSome h op []) × ReadsWait h op
    begins_by d fine op h is held cover =
        let has = call_bytes d.client.held d.client.call (record { op = op; phase = Starts }) is fine.call in
        let u = fine.usable (file_of op) h held in (writes_some h op u has cover, reads_wait h op u has cover)

    -- a client whose call is as it was
    module _ (plain : op_in x i ≡ pending_op x) where
      about_call : (call : Call) → x.call ≡ Some call → op_in x i ≡ Some call.op
      about_call call is = plain ∙ ap (option_map (λ (y : Call). y.op)) is

      pub idle_at : (call : Call) → x.call ≡ Some call → (file_of call.op == file) ≡ true → call.phase ≡ Starts →
          (s.call c ≡ Idle) × (o ≡ None)
      idle_at call is here starts =
          let one : CallOn (file_of call.op == file) m s c call answer = subst (CallAt file m s c answer) is facts.call in
          let two : CallIs m s c call.op answer call.phase = subst (λ (b : Bool). CallOn b m s c call answer) here one in
          let three : CallIs m s c call.op answer Starts = subst (CallIs m s c call.op answer) starts two in
          let tie : PhaseTied s c pairs o call.phase = subst (CallTied s file c pairs o) is facts.tie here in
          (three.at_, subst (PhaseTied s c pairs o) starts tie)

      pub as_it_is : (d : Done) → d.client.call ≡ x.call → d.client.held ≡ x.held → d.outcome ≡ None → d.requests ≡ [] →
          d.commands ≡ [] → MayBegin file c s pairs o (op_in x i) d
      as_it_is d call held none unasked quiet_ = record {
        tied = record {
          ended = λ u p e f here. absurd (cc (sym none ∙ e));
          over = λ u e. absurd (cc (sym none ∙ e));
          about = λ u e. absurd (cc (sym none ∙ e));
          unasked = unasked;
          goes = λ y there here.
              inl (quiet_, subst (CallTied s file c pairs o) (sym call ∙ there) facts.tie here);
        };
        call_op = λ y there. about_call y (sym call ∙ there);
        idle = λ y there here starts. idle_at y (sym call ∙ there) here starts;
        quiet = λ y there starts. none;
        begins = begins_by d (record {
          usable = rw held facts.fine.usable;
          call = rw (held, call) facts.fine.call;
          outcome = rw none tt;
        });
      }

    -- a new call
    pub new_call : (op : CallOp) → i ≡ Calls op → x.call ≡ None → writes_nothing op ≡ false →
        MayBegin file c s pairs o (op_in x i) (quiet (with_start x op))
    new_call op is none some = record {
      tied = record {
        ended = λ u p e f here. absurd (cc e);
        over = λ u e. absurd (cc e);
        about = λ u e. absurd (cc e);
        unasked = refl;
        goes = λ y there here.
            let one : record { op = op; phase = Starts } ≡ y = cc there in
            subst (λ (z : Call). CallGoes file c s pairs o (op_in x i) z []) one (inl (refl, (facts.fresh op is).0));
      };
      call_op = λ y there.
          let one : record { op = op; phase = Starts } ≡ y = cc there in
          rw is (ap (λ (z : Call). Some z.op) one);
      idle = λ y there here starts.
          ((subst (CallAt file m s c answer) none facts.call).at_, (facts.fresh op is).0);
      quiet = λ y there starts. refl;
      begins = begins_by (quiet (with_start x op)) (record {
        usable = facts.fine.usable;
        call = (has_bytes op some, λ h there. tt);
        outcome = tt;
      });
    }

    -- ---- a call that works

    -- behind what became of it
    module _ (t : State) (call_op : CallOp) (op_is : op_in x i ≡ Some call_op) (base : Done) (none : base.outcome ≡ None)
        (unasked : base.requests ≡ []) where
      goes_op : (turn : Turn) (y : Call) → (by_turn base call_op turn).client.call ≡ Some y → y.op ≡ call_op
      goes_op (Goes p) y e =
          let one : record { op = call_op; phase = p } ≡ y = cc e in sym (ap (λ (z : Call). z.op) one)
      goes_op (Ends u) y e = absurd (cc e)
      goes_op (Forgets u) y e = absurd (cc e)

      goes_none : (turn : Turn) (y : Call) → (by_turn base call_op turn).client.call ≡ Some y →
          (by_turn base call_op turn).outcome ≡ None
      goes_none (Goes p) y e = none
      goes_none (Ends u) y e = absurd (cc e)
      goes_none (Forgets u) y e = absurd (cc e)

      never_starts : (turn : Turn) (sent : List Awaited) → TurnTo t c call_op pairs o sent turn → (y : Call) →
          (by_turn base call_op turn).client.call ≡ Some y → y.phase ≡ Starts → ⊥
      never_starts (Goes p) sent z y e starts =
          let one : record { op = call_op; phase = p } ≡ y = cc e in
          let is : p ≡ Starts = ap (λ (q : Call). q.phase) one ∙ starts in
          by (subst (λ (q : Phase). TurnTo t c call_op pairs o sent (Goes q)) is z)
        where
          by : TurnTo t c call_op pairs o sent (Goes Starts) → ⊥
          by (inl k) = k.2
          by (inr k) = k.1
      never_starts (Ends u) sent z y e starts = cc e
      never_starts (Forgets u) sent z y e starts = cc e

      pub turn_may : (turn : Turn) → ((file_of call_op == file) ≡ true → TurnTo t c call_op pairs o base.commands turn) →
          FineDone Any (by_turn base call_op turn) → MayBegin file c t pairs o (op_in x i) (by_turn base call_op turn)
      turn_may turn to fine = record {
        tied = turn_done file c t pairs o (op_in x i) base call_op turn op_is none unasked to;
        call_op = λ y e. op_is ∙ ap (λ (q : CallOp). Some q) (sym (goes_op turn y e));
        idle = λ y e here starts.
            absurd (never_starts turn base.commands
            (to (ap (λ (q : CallOp). file_of q == file) (sym (goes_op turn y e)) ∙ here)) y e starts);
        quiet = λ y e starts. goes_none turn y e;
        begins = begins_by (by_turn base call_op turn) fine;
      }

    moved_may : (t : State) (call : Call) → op_in x i ≡ Some call.op → (mv : Moved) →
        ((file_of call.op == file) ≡ true → MovedTo t c call.op pairs o mv) → FineDone Any (moved (quiet x) call.op mv) →
        MayBegin file c t pairs o (op_in x i) (moved (quiet x) call.op mv)
    moved_may t call op_is mv to fine =
        turn_may t call.op op_is (record (with_held (quiet x) mv.held) { commands = mv.sent }) refl refl mv.turn to fine

    -- a write is one of a write call, with bytes
    pub write_kind : (op : CallOp) (j : ℕ) → j < s.count → IsWriteOf s op j →
        (is_write op ≡ true) × (((span_of op).length == 0) ≡ false)
    write_kind op j low w = (by op refl, ne_eqb (span_of op).length 0 (write_some s op j facts.formed low w))
      where
        by : (q : CallOp) → op ≡ q → is_write op ≡ true
        by (client_rules.Write f offset bytes) e = ap is_write e
        by (client_rules.Read f offset count) e =
            let z = (facts.formed j low).some w.write in
            let k : byte_for (span_of (client_rules.Read f offset count)).offset (bytes_of (client_rules.Read f offset count)) z.0
            ≡ Some z.1 =
            ap (λ (y : CallOp). byte_for (span_of y).offset (bytes_of y) z.0) (sym e) ∙ sym (w.bytes z.0) ∙ z.2 in
            absurd (no_byte offset z.0 z.1 k)

    -- the entry that runs
    runs_now : (call : Call) (h : Held) → x.call ≡ Some call → held_of x.held (file_of call.op) ≡ Some h →
        (file_of call.op == file) ≡ true → IsWorking call.phase → Runs s c h call.op pairs o call.phase
    runs_now call h is held here works = by call.phase refl works
      where
        here_held : held_of x.held file ≡ Some h
        here_held = ap (held_of x.held) (sym (eqb-true (file_of call.op) file here)) ∙ held

        its : CallIs m s c call.op answer call.phase
        its =
            let one : CallOn (file_of call.op == file) m s c call answer = subst (CallAt file m s c answer) is facts.call in
            subst (λ (b : Bool). CallOn b m s c call answer) here one

        tie : PhaseTied s c pairs o call.phase
        tie = subst (CallTied s file c pairs o) is facts.tie here

        fit : IsFit h call.op call.phase
        fit =
            let all : CallFits x.held (Some call) = subst (CallFits x.held) is facts.fine.call in all.1 h held

        entry_at : (j : ℕ) → s.call c ≡ AtRead j → HasEntry pairs (entry_of s c) o → HasEntry pairs j o
        entry_at j at_ k = (k.0, k.1, subst (IsPair pairs k.0) (ap entry_in at_) k.2)

        reading : (j : ℕ) → IsReading s c call.op j → is_write call.op ≡ false → HasEntry pairs (entry_of s c) o →
            RunsRead s c h call.op pairs o
        reading j r reads k = record {
          entry = j;
          at_ = r.at_;
          reads = reads;
          has = entry_at j r.at_ k;
          long = sym (ap (λ (n : ℕ). min (s.start j).to_ (s.start j).clip - n) r.first
              ∙ ap (λ (n : ℕ). min n (s.start j).clip - (span_of call.op).offset) r.past
              ∙ ap (λ (n : ℕ). min ((span_of call.op).offset + (span_of call.op).length) n - (span_of call.op).offset)
              (r.clip ∙ facts.size h here_held));
        }

        by : (p : Phase) → call.phase ≡ p → IsWorking call.phase → Runs s c h call.op pairs o call.phase
        by p e w = subst (Runs s c h call.op pairs o) (sym e)
            (at_ p (subst IsWorking e w) (subst (CallIs m s c call.op answer) e its) (subst (PhaseTied s c pairs o) e tie)
            (subst (IsFit h call.op) e fit))
          where
            at_ : (p : Phase) → IsWorking p → CallIs m s c call.op answer p → PhaseTied s c pairs o p → IsFit h call.op p →
                Runs s c h call.op pairs o p
            at_ (Reads io) w k z f = reading k.0 k.1 f.is z
            at_ (Probes io) w k z f = (reading k.0 k.1 f.is z, f.none)
            at_ (Gathers io) w k z f = record { entry = k.0; at_ = k.1.at_; writes = f.is; none = z }
            at_ (Scatters io queue) w k z f =
                let kind = write_kind call.op k.0 k.1.writing.running.below k.1.writing.write in
                record {
                  at_ = k.1.writing.at_ ∙ ap (λ (n : ℕ). AtWrite n) (sym k.1.writing.last);
                  writes = kind.0;
                  some = kind.1;
                  has = z;
                }
            at_ Starts w k z f = absurd w
            at_ (Needs n) w k z f = absurd w
            at_ (Waits n) w k z f = absurd w

    pub replied_goes : (drive : ℕ) (q : Reply) (call : Call) (h : Held) (a : Awaited) → IsReplied x i drive q call h a →
        Tied_ (where_so (file_of call.op == file) (table.replied s c a q call.phase))
        (finished (moved (quiet x) call.op (replied h call.op call.phase a q)))
    replied_goes drive q call h a n =
        let es : List Event = where_so (file_of call.op == file) (table.replied s c a q call.phase) in
        finish es (moved (quiet x) call.op (replied h call.op call.phase a q))
        (moved_may (after_all s es) call (rw n.is (ap (option_map (λ (y : Call). y.op)) n.call_is))
        (replied h call.op call.phase a q)
        (λ here.
        subst (λ (b : Bool). MovedTo (after_all s (where_so b (table.replied s c a q call.phase))) c call.op pairs o
        (replied h call.op call.phase a q)) (sym here)
        (replied_to s c h call.op pairs o call.phase
        (runs_now call h n.call_is n.held here (found_working call.phase (answers drive q) a n.awaits))
        (facts.gathers call h n.call_is n.held) a q))
        (replied_done x i facts.fine Any drive q call h a n (λ bytes z. tt)))

    pub timed_goes : (k : ℕ) (call : Call) (h : Held) (a : Awaited) (xs : List Awaited) → IsTimed x i k call h a xs →
        Tied_ (where_so (file_of call.op == file) (table.turned s c (timed_out h call.op call.phase k a xs).turn))
        (finished (moved (quiet x) call.op (timed_out h call.op call.phase k a xs)))
    timed_goes k call h a xs n =
        let mv : Moved = timed_out h call.op call.phase k a xs in
        let es : List Event = where_so (file_of call.op == file) (table.turned s c mv.turn) in
        finish es (moved (quiet x) call.op mv)
        (moved_may (after_all s es) call (rw n.is (ap (option_map (λ (y : Call). y.op)) n.call_is)) mv
        (λ here.
        subst (λ (b : Bool). MovedTo (after_all s (where_so b (table.turned s c mv.turn))) c call.op pairs o mv) (sym here)
        (timed_to s c h call.op pairs o call.phase
        (runs_now call h n.call_is n.held here (timed_working call.phase k a xs n.awaits)) k a xs
        (facts.times call h a xs n.call_is n.held)))
        (timed_done x i facts.fine Any k call h a xs n (λ bytes z. tt)))
