-- A turn in which a client takes an answer is tied to the entries of a file.
-- Towards `CutsShowEntries` (`specs/Parts.antt`).
use Rattle.std.proofs.Common.{◌≡◌, ◌==◌, ◌+◌, ℕ, Bool, true, false, List, [], ◌∷◌, Option, Some, None, Result, Ok, Err, refl, sym, ap, subst, ◌∙◌, inl, inr, if◌then◌else◌}
use Rattle.std.specs.Prelude.{option_map, nat_lt}
use Rattle.data_map.specs.declared.check.RawMap.{RawMap}
use Rattle.layout_ops.specs.declared.args.Args.{Args}
use Rattle.layout_ops.specs.declared.args.Args.TheVariants as args
use Rattle.layout_ops.specs.declared.messages.Answer.{Answer}
use Rattle.layout_ops.specs.declared.statuses.TheConstants.{NFS4_OK, NFS4ERR_BADLAYOUT, NFS4ERR_NOENT, NFS4ERR_LAYOUTTRYLATER, NFS4ERR_RECALLCONFLICT, NFS4ERR_LAYOUTUNAVAILABLE}
use Rattle.client_rules.specs.Answers.{busy, not_granted, on_commit, committed, not_committed, on_report, is_loss_taken, unavailable}
use Rattle.client_rules.specs.Calls.{file_of, span_of, is_write}
use Rattle.client_rules.specs.Going.{quiet, by_turn, phased, with_held}
use Rattle.client_rules.specs.Grants.{held_of}
use Rattle.client_rules.specs.History.{Input}
use Rattle.client_rules.specs.Layouts.{taken}
use Rattle.client_rules.specs.Messages.{finished, on_call, on_phase, answered_get, commit_under}
use Rattle.client_rules.specs.Results.{status_of}
use Rattle.client_rules.specs.Writes.{accounted, lowest}
use Rattle.history_law.specs.Turns.{AnswerComes}
use Rattle.world_history.specs.ClientNames.{Client, Call, Held, Awaited, Request, TimedOut, Done, Need, First, Get, Commit, Report, Close, Phase, Starts, Needs, Waits, Reads, Probes, Gathers, Scatters, Outcome, WriteOk, NoFile, HeldBy, Fencing, Degraded, Spent, Status, Refused, BadLayout, Silent, Turn, Ends, Forgets, Why}
use Rattle.world_history.specs.Handed.{op_in, pending_op}
use Rattle.fence_law.specs.Machine.{after_all}
use Rattle.fence_law.specs.State as machine
use Rattle.fence_law.specs.State.{State}
use Rattle.fence_law.specs.State.RequestKind.{Return}
use Rattle.client_rules.specs.Turns.{needing, turned}
use Rattle.client_rules.specs.declared.limits.TheConstants.{NO_COMPONENT, MAX_TRIES}
use Rattle.fence_law.specs.State.{Event as event}
use Rattle.file_simulation.specs.Requests.{RequestClass, Own, phase_of, return_class}
use Rattle.fence_law.specs.State.Call.{Idle}
use Rattle.file_simulation.specs.Calls.{CallAt, CallOn, CallIs, ReportIs, is_taken}
use Rattle.file_simulation.specs.ClientEvents as table
use Rattle.file_simulation.specs.EventLists.{entry_in, write_of}
use Rattle.file_simulation.specs.Showing.{Pairs, IsPair}
use Rattle.relation_law.specs.CallsFits.{AnswerFits, AskedFor, IsReturn, IsGet}
use Rattle.relation_law.specs.CallsTurns.{IsWorking}
use Rattle.relation_law.specs.Returns.{EndsBadly}
use Rattle.relation_law.proofs.MessagesAlways.{Any, on_call_fine}
use Rattle.relation_law.proofs.MessagesRun.{FineDone}
use Rattle.file_simulation.specs.Tied.{HasEntry, PhaseTied, CallTied}
use Rattle.headline_law.proofs.EntriesDone.{CallGoes, MayBegin}
use Rattle.headline_law.proofs.EntriesEnds.{OutcomeTied}
use Rattle.headline_law.proofs.EntriesFirst.{taking_same, taken_answer}
use Rattle.headline_law.proofs.EntriesMoved.{TurnTo, MovedTo}
use Rattle.headline_law.proofs.EntriesRest.{phase_stays}
use Rattle.headline_law.proofs.EntriesTurns.{SameEntries, same_write}
use Rattle.headline_law.proofs.EntriesWalk.{WalkFacts, Tied_, finish, begins_by, idle_at, write_kind, turn_may}

module _ (file : ℕ) (m : RawMap) (s : State) (c : ℕ) (x : Client) (i : Input) (pairs : Pairs) (o : Option ℕ)
    (answer : Option Answer) (facts : WalkFacts file m s c x i pairs o answer) where
  -- ---- an answer

  module _ (a : Answer) (n : AnswerComes x i a) where
    abbrev t : State
    t = after_all s (table.answered s file c x a x.outstanding)

    abbrev d : Done
    d = on_call (quiet (record x { outstanding = None })) x.call a

    fits : AnswerFits file x a n.request
    fits = facts.answered a n.request n n.outstanding

    same : SameEntries s t
    same = taking_same s (table.answered s file c x a x.outstanding) (taken_answer file c s x a x.outstanding)

    plain_op : op_in x i ≡ pending_op x
    plain_op = rw n.is refl

    fine_d : FineDone Any d
    fine_d =
        on_call_fine (quiet (record x { outstanding = None })) x.call a refl
        (record { usable = facts.fine.usable; call = facts.fine.call; outcome = tt })

    -- a return that isn't a report leaves the client where it is
    by_return : (r : Request) → IsReturn r.args → (kind : machine.RequestKind) →
        return_class (phase_of x.call) ≡ Own kind →
        (after_all s (table.answered s file c x a (Some r))).call ≡ s.call
    by_return r is kind class = by (r.file == file)
      where
        here : (z : Args) → IsReturn z → (after_all s (table.answered_here s c a (phase_of x.call) z)).call ≡ s.call
        here (args.LayoutReturn z) k =
            ap (λ (q : RequestClass). (after_all s (table.return_answered s c a q)).call) class
        here (args.LayoutGet z) k = absurd k
        here (args.LayoutCommit z) k = absurd k

        by : (b : Bool) → (after_all s (if b then table.answered_here s c a (phase_of x.call) r.args
            else event.TakesOther c ∷ [])).call ≡ s.call
        by true = here r.args is
        by false = refl

    call_same : IsReturn n.request.args → (kind : machine.RequestKind) → return_class (phase_of x.call) ≡ Own kind →
        t.call ≡ s.call
    call_same is kind class =
        ap (λ (r : Option Request). (after_all s (table.answered s file c x a r)).call) n.outstanding
        ∙ by_return n.request is kind class

    -- no call is pending
    without : x.call ≡ None → MayBegin file c t pairs o (op_in x i) (on_call (quiet (record x { outstanding = None })) None a)
    without none = record {
      tied = record {
        ended = λ u p e f here. absurd (cc e);
        over = λ u e. absurd (cc e);
        about = λ u e. absurd (cc e);
        unasked = refl;
        goes = λ y e here. absurd (cc (sym none ∙ e));
      };
      call_op = λ y e. absurd (cc (sym none ∙ e));
      idle = λ y e here starts. absurd (cc (sym none ∙ e));
      quiet = λ y e starts. refl;
      begins = λ op h e held cover. absurd (cc (sym none ∙ e));
    }

    module _ (call : Call) (is : x.call ≡ Some call) where
      op_is : op_in x i ≡ Some call.op
      op_is = plain_op ∙ ap (option_map (λ (y : Call). y.op)) is

      tie : (file_of call.op == file) ≡ true → PhaseTied s c pairs o call.phase
      tie here = subst (CallTied s file c pairs o) is facts.tie here

      its : (file_of call.op == file) ≡ true → CallIs m s c call.op answer call.phase
      its here =
          let one : CallOn (file_of call.op == file) m s c call answer = subst (CallAt file m s c answer) is facts.call in
          subst (λ (b : Bool). CallOn b m s c call answer) here one

      fine_call : FineDone Any (on_phase (quiet (record x { outstanding = None })) call.op call.phase a)
      fine_call =
          subst (λ (z : Option Call). FineDone Any (on_call (quiet (record x { outstanding = None })) z a)) is fine_d

      -- the call goes on as it was
      stays : (IsWorking call.phase → t.call ≡ s.call) → (call.phase ≡ Starts → t.call ≡ s.call) →
          FineDone Any (quiet (record x { outstanding = None })) →
          MayBegin file c t pairs o (op_in x i) (quiet (record x { outstanding = None }))
      stays works starts_same fine = record {
        tied = record {
          ended = λ u p e f here. absurd (cc e);
          over = λ u e. absurd (cc e);
          about = λ u e. absurd (cc e);
          unasked = refl;
          goes = λ y e here.
              let both : Some call ≡ Some y = sym is ∙ e in
              let one : call ≡ y = cc both in
              let its_here : (file_of call.op == file) ≡ true = ap (λ (z : Call). file_of z.op == file) one ∙ here in
              subst (λ (z : Call). CallGoes file c t pairs o (op_in x i) z []) one
              (inl (
                refl,
                phase_stays s t c pairs o call.phase (same_write s t c same)
                    (λ w. ap (λ (f : ℕ → machine.Call). entry_in (f c)) (works w)) (tie its_here),
              ));
        };
        call_op = λ y e. plain_op ∙ ap (option_map (λ (z : Call). z.op)) e;
        idle = λ y e here starts.
            let both : Some call ≡ Some y = sym is ∙ e in
            let one : call ≡ y = cc both in
            let z = idle_at file m s c x i pairs o answer facts plain_op y e here starts in
            (ap (λ (f : ℕ → machine.Call). f c) (starts_same (ap (λ (q : Call). q.phase) one ∙ starts)) ∙ z.0, z.1);
        quiet = λ y e starts. refl;
        begins = begins_by file m s c x i pairs o answer facts (quiet (record x { outstanding = None })) fine;
      }

      -- it begins anew
      restarts : (e : Done) → e.client.call ≡ Some (record { op = call.op; phase = Starts }) → e.outcome ≡ None →
          e.requests ≡ [] → e.commands ≡ [] → ((file_of call.op == file) ≡ true → (t.call c ≡ Idle) × (o ≡ None)) →
          FineDone Any e → MayBegin file c t pairs o (op_in x i) e
      restarts e there none unasked quiet_ idle fine = record {
        tied = record {
          ended = λ u p q f here. absurd (cc (sym none ∙ q));
          over = λ u q. absurd (cc (sym none ∙ q));
          about = λ u q. absurd (cc (sym none ∙ q));
          unasked = unasked;
          goes = λ y q here.
              let both : Some (record { op = call.op; phase = Starts }) ≡ Some y = sym there ∙ q in
              let one : record { op = call.op; phase = Starts } ≡ y = cc both in
              subst (λ (z : Call). CallGoes file c t pairs o (op_in x i) z e.commands) one
              (inl (quiet_, (idle (ap (λ (z : Call). file_of z.op == file) one ∙ here)).1));
        };
        call_op = λ y q.
            let both : Some (record { op = call.op; phase = Starts }) ≡ Some y = sym there ∙ q in
            let one : record { op = call.op; phase = Starts } ≡ y = cc both in
            op_is ∙ ap (λ (z : Call). Some z.op) one;
        idle = λ y q here starts.
            let both : Some (record { op = call.op; phase = Starts }) ≡ Some y = sym there ∙ q in
            let one : record { op = call.op; phase = Starts } ≡ y = cc both in
            idle (ap (λ (z : Call). file_of z.op == file) one ∙ here);
        quiet = λ y q starts. none;
        begins = begins_by file m s c x i pairs o answer facts e fine;
      }

      -- it is turned
      turns : (base : Done) → base.outcome ≡ None → base.requests ≡ [] → (turn : Turn) →
          ((file_of call.op == file) ≡ true → TurnTo t c call.op pairs o base.commands turn) →
          FineDone Any (by_turn base call.op turn) → MayBegin file c t pairs o (op_in x i) (by_turn base call.op turn)
      turns base none unasked turn to fine =
          turn_may file m s c x i pairs o answer facts t call.op op_is base none unasked turn to fine

      -- an answer to a LAYOUTGET leaves the client where it is
      get_same : IsGet n.request.args → t.call ≡ s.call
      get_same get =
          ap (λ (r : Option Request). (after_all s (table.answered s file c x a r)).call) n.outstanding
          ∙ by (n.request.file == file)
        where
          here : (z : Args) → IsGet z → (after_all s (table.answered_here s c a (phase_of x.call) z)).call ≡ s.call
          here (args.LayoutGet z) k = refl
          here (args.LayoutReturn z) k = absurd k
          here (args.LayoutCommit z) k = absurd k

          by : (b : Bool) → (after_all s (if b then table.answered_here s c a (phase_of x.call) n.request.args
              else event.TakesOther c ∷ [])).call ≡ s.call
          by true = here n.request.args get
          by false = refl

      class_is : (p : Phase) → call.phase ≡ p → return_class (phase_of x.call) ≡ return_class (Some p)
      class_is p e =
          ap (λ (z : Option Call). return_class (phase_of z)) is ∙ ap (λ (q : Phase). return_class (Some q)) e

      waits_for : (need : Need) → call.phase ≡ Waits need →
          (n.request.file ≡ file_of call.op) × AskedFor need n.request.args
      waits_for need e =
          fits.waits call.op need (is ∙ ap (λ (q : Phase). Some (record { op = call.op; phase = q })) e)

      due_return : (p : Phase) → call.phase ≡ p → ((need : Need) → p ≡ Waits need → ⊥) → IsReturn n.request.args
      due_return p e other =
          fits.due (λ op need there.
          let both : Some call ≡ Some (record { op = op; phase = Waits need }) = sym is ∙ there in
          let one : call ≡ record { op = op; phase = Waits need } = cc both in
          other need (sym e ∙ ap (λ (y : Call). y.phase) one))

      abbrev Goal : Phase → Type 0
      Goal p = MayBegin file c t pairs o (op_in x i) (on_phase (quiet (record x { outstanding = None })) call.op p a)

      -- a grant may have been given
      get_to : (tries : ℕ) → o ≡ None → TurnTo t c call.op pairs o [] (not_granted a tries)
      unfolding not_granted busy
      get_to tries none = by (status_of a.results == NFS4ERR_NOENT) (status_of a.results == NFS4ERR_LAYOUTTRYLATER)
          (status_of a.results == NFS4ERR_RECALLCONFLICT) (status_of a.results == NFS4ERR_LAYOUTUNAVAILABLE) (nat_lt
          (tries + 1) MAX_TRIES)
        where
          again : (b : Bool) (u : Outcome) → OutcomeTied t c call.op pairs o u →
              TurnTo t c call.op pairs o [] (if b then needing (Get (tries + 1)) else Ends u)
          again true u z = inl (refl, none, tt)
          again false u z = z

          unavailable_to : (b : Bool) (n : ℕ) → OutcomeTied t c call.op pairs o (if b then Spent else Degraded n)
          unavailable_to true n = tt
          unavailable_to false n = tt

          by : (b1 b2 b3 b4 : Bool) (k : Bool) → TurnTo t c call.op pairs o []
              (if b1 then Ends NoFile else if b2 then (if k then needing (Get (tries + 1)) else Ends (HeldBy a.detail))
              else if b3 then (if k then needing (Get (tries + 1)) else Ends (Fencing a.detail))
              else if b4 then Ends (unavailable a.detail) else Ends (Status (status_of a.results) a.detail))
          by true b2 b3 b4 k = tt
          by false true b3 b4 k = again k (HeldBy a.detail) tt
          by false false true b4 k = again k (Fencing a.detail) tt
          by false false false true k = unavailable_to (a.detail == NO_COMPONENT) a.detail
          by false false false false k = tt

      -- behind the last WRITE of a write, where its entry is known
      account_to : (timed : List TimedOut) (sent : List Awaited) → sent ≡ [] → ((span_of call.op).length == 0) ≡ false →
          is_write call.op ≡ true → HasEntry pairs (write_of t c) o → TurnTo t c call.op pairs o sent (accounted call.op timed)
      account_to [] sent none some writes has = inr (some, writes, has)
      account_to (u ∷ us) sent none some writes has = inl (none, has, tt)

      entry_there : HasEntry pairs (write_of s c) o → HasEntry pairs (write_of t c) o
      entry_there k = (k.0, k.1, subst (IsPair pairs k.0) (sym (same_write s t c same)) k.2)

      bad_tied : (u : Outcome) → EndsBadly u → OutcomeTied t c call.op pairs o u
      bad_tied (Refused drive verdict detail) k = tt
      bad_tied (Silent k1) k = tt
      bad_tied u k = absurd k

      with_call : MayBegin file c t pairs o (op_in x i) (on_phase (quiet (record x { outstanding = None })) call.op call.phase a)
      unfolding on_commit not_committed on_report
      with_call = by call.phase refl
        where
          fine_at : (p : Phase) → call.phase ≡ p → FineDone Any (on_phase (quiet (record x { outstanding = None })) call.op p a)
          fine_at p e =
              subst (λ (q : Phase). FineDone Any (on_phase (quiet (record x { outstanding = None })) call.op q a)) e fine_call

          its_at : (p : Phase) → call.phase ≡ p → (file_of call.op == file) ≡ true → CallIs m s c call.op answer p
          its_at p e here = subst (CallIs m s c call.op answer) e (its here)

          tie_at : (p : Phase) → call.phase ≡ p → (file_of call.op == file) ≡ true → PhaseTied s c pairs o p
          tie_at p e here = subst (PhaseTied s c pairs o) e (tie here)

          still_so : (p : Phase) → (e : call.phase ≡ p) → ((need : Need) → p ≡ Waits need → ⊥) →
              return_class (Some p) ≡ Own (Return true) → FineDone Any (quiet (record x { outstanding = None })) →
              MayBegin file c t pairs o (op_in x i) (quiet (record x { outstanding = None }))
          still_so p e other class fine =
              let call_is : t.call ≡ s.call = call_same (due_return p e other) (Return true) (class_is p e ∙ class) in
              stays (λ w. call_is) (λ w. call_is) fine

          by_get : (tries : ℕ) → (e : call.phase ≡ Waits (Get tries)) → Goal (Waits (Get tries))
          by_get tries e = by_status (status_of a.results == NFS4_OK) (fine_at (Waits (Get tries)) e)
            where
              idle : (file_of call.op == file) ≡ true → (t.call c ≡ Idle) × (o ≡ None)
              idle here = (
                ap (λ (f : ℕ → machine.Call). f c) (get_same (waits_for (Get tries) e).1)
                    ∙ (its_at (Waits (Get tries)) e here).at_,
                tie_at (Waits (Get tries)) e here,
              )

              given : (r : Result Held Why) →
                  FineDone Any (answered_get (quiet (record x { outstanding = None })) call.op r) →
                  MayBegin file c t pairs o (op_in x i) (answered_get (quiet (record x { outstanding = None })) call.op r)
              given (Err w) fine =
                  turns (quiet (record x { outstanding = None })) refl refl (Ends (BadLayout w)) (λ here. tt) fine
              given (Ok h) fine =
                  restarts (phased (with_held (quiet (record x { outstanding = None })) h) call.op Starts) refl refl refl refl
                  idle fine

              by_status : (b : Bool) → FineDone Any
                  (if b then answered_get (quiet (record x { outstanding = None })) call.op (taken a call.op)
                  else by_turn (quiet (record x { outstanding = None })) call.op (not_granted a tries)) →
                  MayBegin file c t pairs o (op_in x i)
                  (if b then answered_get (quiet (record x { outstanding = None })) call.op (taken a call.op)
                  else by_turn (quiet (record x { outstanding = None })) call.op (not_granted a tries))
              by_status true fine = given (taken a call.op) fine
              by_status false fine =
                  turns (quiet (record x { outstanding = None })) refl refl (not_granted a tries)
                  (λ here. get_to tries (tie_at (Waits (Get tries)) e here)) fine

          by_commit : (timed : List TimedOut) → (e : call.phase ≡ Waits (Commit timed)) → (h : Option Held) →
              FineDone Any (commit_under (quiet (record x { outstanding = None })) call.op a (Commit timed) h) →
              MayBegin file c t pairs o (op_in x i)
              (commit_under (quiet (record x { outstanding = None })) call.op a (Commit timed) h)
          by_commit timed e None fine =
              stays (λ w. absurd (subst IsWorking e w)) (λ starts. absurd (cc (sym starts ∙ e))) fine
          by_commit timed e (Some h) fine =
              turns (record (with_held (quiet (record x { outstanding = None })) (on_commit h call.op a timed).held) {
                commands = (on_commit h call.op a timed).sent;
              }) refl refl (on_commit h call.op a timed).turn commit_to fine
            where
              commit_to : (file_of call.op == file) ≡ true →
                  TurnTo t c call.op pairs o (on_commit h call.op a timed).sent (on_commit h call.op a timed).turn
              commit_to here = at_ (status_of a.results == NFS4_OK) (status_of a.results == NFS4ERR_BADLAYOUT)
                where
                  at_ : (b d : Bool) → MovedTo t c call.op pairs o
                      (if b then committed h call.op a timed
                      else turned h (if d then Forgets (Status (status_of a.results) a.detail)
                      else Ends (Status (status_of a.results) a.detail)))
                  at_ true d =
                      let w = its_at (Waits (Commit timed)) e here in
                      let kind =
                      write_kind file m s c x i pairs o answer facts call.op w.0 w.1.writing.running.below w.1.writing.write in
                      account_to timed [] refl kind.1 kind.0 (entry_there (tie_at (Waits (Commit timed)) e here))
                  at_ false true = tt
                  at_ false false = tt

          report_kind : (timed : List TimedOut) (b : Bool) (j : ℕ) → ReportIs s c call.op timed b j →
              (is_write call.op ≡ true) × (((span_of call.op).length == 0) ≡ false)
          report_kind timed false j w =
              write_kind file m s c x i pairs o answer facts call.op j w.writing.running.below w.writing.write
          report_kind timed true j w = write_kind file m s c x i pairs o answer facts call.op j w.below w.write

          report_to : (timed : List TimedOut) → (e : call.phase ≡ Waits (Report timed)) → (file_of call.op == file) ≡ true →
              OutcomeTied t c call.op pairs o (on_report call.op a timed)
          report_to timed e here = at_ (is_loss_taken a)
            where
              at_ : (b : Bool) → OutcomeTied t c call.op pairs o
                  (if b then WriteOk (span_of call.op).length else Silent (lowest timed))
              at_ true =
                  let w = its_at (Waits (Report timed)) e here in
                  let kind = report_kind timed (is_taken answer) w.0 w.1 in
                  inr (kind.1, kind.0, entry_there (tie_at (Waits (Report timed)) e here))
              at_ false = tt

          by : (p : Phase) → call.phase ≡ p → Goal p
          by Starts e = still_so Starts e (λ need q. cc q) refl (fine_at Starts e)
          by (Needs need) e = still_so (Needs need) e (λ other q. cc q) refl (fine_at (Needs need) e)
          by (Reads io) e = still_so (Reads io) e (λ need q. cc q) refl (fine_at (Reads io) e)
          by (Probes io) e = still_so (Probes io) e (λ need q. cc q) refl (fine_at (Probes io) e)
          by (Gathers io) e = still_so (Gathers io) e (λ need q. cc q) refl (fine_at (Gathers io) e)
          by (Scatters io queue) e = still_so (Scatters io queue) e (λ need q. cc q) refl (fine_at (Scatters io queue) e)
          by (Waits First) e =
              restarts (phased (quiet (record x { outstanding = None })) call.op Starts) refl refl refl refl
              (λ here. (
                ap (λ (f : ℕ → machine.Call). f c)
                    (call_same (waits_for First e).1 (Return true) (class_is (Waits First) e))
                    ∙ (its_at (Waits First) e here).at_,
                tie_at (Waits First) e here,
              )) (fine_at (Waits First) e)
          by (Waits (Get tries)) e = by_get tries e
          by (Waits (Commit timed)) e =
              by_commit timed e (held_of x.held (file_of call.op)) (fine_at (Waits (Commit timed)) e)
          by (Waits (Report timed)) e =
              turns (quiet (record x { outstanding = None })) refl refl (Ends (on_report call.op a timed)) (report_to timed e)
              (fine_at (Waits (Report timed)) e)
          by (Waits (Close u report)) e =
              turns (quiet (record x { outstanding = None })) refl refl (Ends u)
              (λ here. bad_tied u (facts.closed call.op u report
              (is ∙ ap (λ (q : Phase). Some (record { op = call.op; phase = q })) e))) (fine_at (Waits (Close u report)) e)

    may_begin : MayBegin file c t pairs o (op_in x i) d
    may_begin = by x.call refl
      where
        by : (z : Option Call) → x.call ≡ z → MayBegin file c t pairs o (op_in x i) d
        by None is =
            subst (λ (z : Option Call). MayBegin file c t pairs o (op_in x i)
            (on_call (quiet (record x { outstanding = None })) z a)) (sym is) (without is)
        by (Some call) is =
            subst (λ (z : Option Call). MayBegin file c t pairs o (op_in x i)
            (on_call (quiet (record x { outstanding = None })) z a)) (sym is) (with_call call is)

  pub answered_goes : (a : Answer) → AnswerComes x i a → Tied_ file m s c x i pairs o answer facts
      (table.answered s file c x a x.outstanding)
      (finished (on_call (quiet (record x { outstanding = None })) x.call a))
  answered_goes a n =
      finish file m s c x i pairs o answer facts (table.answered s file c x a x.outstanding) (on_call (quiet
      (record x { outstanding = None })) x.call a)
      (may_begin a n)
