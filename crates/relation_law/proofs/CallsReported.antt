-- An answer to a LAYOUTCOMMIT of the file, or to a report that may be taken as a loss.
-- Towards `CallsGoOn` (`specs/Steps.antt`).
use Rattle.std.proofs.Common.{◌≡◌, ◌⊎◌, ◌==◌, ◌&&◌, not, ℕ, Bool, true, false, List, Option, Some, None, refl, sym, ap, subst, ◌∙◌, inl, inr}
use Rattle.std.proofs.lemmas.Bool.{true≢false, eqb-true, eq-eqb}
use Rattle.data_map.specs.declared.check.RawMap.{RawMap}
use Rattle.layout_ops.specs.declared.messages.Answer.{Answer}
use Rattle.layout_ops.specs.declared.statuses.TheConstants.{NFS4_OK, NFS4ERR_BADLAYOUT}
use Rattle.client_rules.specs.Answers.{not_committed, on_commit, on_report, is_loss_taken}
use Rattle.client_rules.specs.Calls.{file_of}
use Rattle.client_rules.specs.Going.{quiet, over, moved}
use Rattle.client_rules.specs.Grants.{held_of, put_held, without_held}
use Rattle.client_rules.specs.Messages.{on_need}
use Rattle.client_rules.specs.Results.{status_of}
use Rattle.client_rules.specs.Turns.{turned}
use Rattle.client_rules.specs.Writes.{accounted}
use Rattle.client_rules.proofs.HeldGrants.{held_file}
use Rattle.exchange_law.proofs.ClientKeeping.{none_left}
use Rattle.world_history.specs.ClientNames.{Client, CallOp, Held, TimedOut, Commit, Report, Waits, Outcome, Status, Forgets}
use Rattle.fence_law.specs.State.{State}
use Rattle.fence_law.specs.State.{Event as event}
use Rattle.fence_law.specs.Machine.{after, after_all}
use Rattle.fence_law.proofs.Commands.{Calls}
use Rattle.file_simulation.specs.EventLists.{entry_of}
use Rattle.file_simulation.specs.ClientEvents.{commit_answered, report_answered}
use Rattle.file_simulation.specs.Calls.{IsIdle, IsClient, IsHolding, HoldsNone, HeldIs, WaitsCommit, ReportIs, reports_on, waits_report, is_taken}
use Rattle.relation_law.specs.CallsTurns.{OutcomeIs, IsMid}
use Rattle.relation_law.proofs.CallsFrames.{spares}
use Rattle.relation_law.proofs.CallsSpared.{carried, waits_commit_spared, taken_spared}
use Rattle.relation_law.proofs.CallsGuards.{entry_writes}
use Rattle.relation_law.proofs.CallsFirst.{commit_taken, commit_out, commit_fits, commit_holding, refusal_idle, refusal_none, forgets_idle, forgets_none}
use Rattle.relation_law.proofs.CallsMoved.{counted_same, account}
use Rattle.relation_law.proofs.CallsMid.{IsReady, moved_here, holds_any}
use Rattle.relation_law.proofs.CallsAnswered.{answered_client, over_now}

module _ (file : ℕ) (m : RawMap) (c : ℕ) (s : State) (calls : Calls s) (x : Client) (a : Answer)
    (k : IsClient file m s c x (Some a)) (op : CallOp) (here : (file_of op == file) ≡ true) (timed : List TimedOut) where
  abbrev t : State
  t = after s (event.TakesOther c)

  abbrev y : Client
  y = answered_client x

  file_there : held_of x.held (file_of op) ≡ held_of x.held file
  file_there = ap (λ (n : ℕ). held_of x.held n) (eqb-true (file_of op) file here)

  -- ---- a commit

  module _ (is : x.call ≡ Some (record { op = op; phase = Waits (Commit timed) })) (j : ℕ)
      (w : WaitsCommit s c op timed (Some a) j) where
    -- the call writes under a grant that is held
    grant_held : (h : Held) × (held_of x.held file ≡ Some h)
    grant_held = by_held (held_of x.held file) refl
      where
        none_so : HeldIs file m s c x (Some a) None → s.held c ≡ None
        none_so v =
            at_plain (file_of op == file)
            (subst (λ z. HoldsNone s c x.outstanding (reports_on file z && not (is_taken (Some a)))) is v)
          where
            at_plain : (b : Bool) →
                HoldsNone s c x.outstanding ((b && waits_report (Waits (Commit timed))) && not (is_loss_taken a)) →
                s.held c ≡ None
            at_plain true v = v
            at_plain false v = v

        by_held : (q : Option Held) → held_of x.held file ≡ q → (h : Held) × (held_of x.held file ≡ Some h)
        by_held (Some h) e = (h, e)
        by_held None e =
            let r = calls.writes c j w.writing.at_ in
            absurd (cc (sym (none_so (subst (λ z. HeldIs file m s c x (Some a) z) e k.held)) ∙ r.under.1))

    abbrev h : Held
    h = grant_held.0

    holds : IsHolding m s c h
    holds = subst (λ z. HeldIs file m s c x (Some a) z) grant_held.1 k.held

    there : held_of x.held (file_of op) ≡ Some h
    there = file_there ∙ grant_held.1

    at_entry : entry_of s c ≡ j
    at_entry = entry_writes s c j w.writing.at_

    waits_now : WaitsCommit t c op timed (Some a) j
    waits_now = waits_commit_spared s t c (carried s t c (spares c s (event.TakesOther c) tt)) op timed (Some a) j w

    -- it was carried out
    commit_done : status_of a.results ≡ NFS4_OK →
        IsMid file m (after t (event.TakesCommit c j)) c None (Some op)
        (moved (quiet y) op (turned (record h { size = a.size }) (accounted op timed)))
    commit_done ok =
        let u : State = after t (event.TakesCommit c j) in
        let g : Held = record h { size = a.size } in
        let holds_t : IsHolding m t c h =
        record { grant = holds.grant; held = holds.held; same = holds.same; size = holds.size; nonce = holds.nonce } in
        let ready : IsReady file m c None u = record { fresh = k.fresh; used = k.used } in
        moved_here file m c None u ready (quiet y) refl refl op g
        (turned g (accounted op timed)) here (held_file x.held (file_of op) h there)
        (record {
          held = counted_same g;
          turn = account m u c op None g j timed (commit_taken t c op timed a j j waits_now)
              (commit_out t c op timed a j j waits_now) (commit_fits t c op timed a j j waits_now ok);
        })
        (holds_any file m c None u ready (quiet y) refl refl op g (turned g (accounted op timed)) (accounted op timed)
        (commit_holding m t c op timed a j h waits_now ok holds_t))

    -- its grant is over
    commit_over : (v : Outcome) → ((u : State) → IsIdle u c → OutcomeIs u c op v) →
        IsMid file m (after t (event.TakesRefusal c j)) c None (Some op)
        (moved (quiet y) op (turned h (Forgets v)))
    commit_over v f =
        let u : State = after t (event.TakesRefusal c j) in
        record {
          held =
              subst (λ q. HeldIs file m u c (record y {
                held = without_held (put_held x.held h) (file_of op);
                call = None;
              }) None q)
              (sym none_there) (refusal_none t c j);
          call = rw here (f u (refusal_idle t c j));
          fresh = k.fresh;
          used = k.used;
          about = λ call e. absurd (cc e);
          ended = λ q e. refl;
          unasked = refl;
          needs = λ p n e b. absurd (cc e);
        }
      where
        none_there : held_of (without_held (put_held x.held h) (file_of op)) file ≡ None
        none_there = ap (λ (n : ℕ). held_of (without_held (put_held x.held h) (file_of op)) n)
            (sym (eqb-true (file_of op) file here)) ∙ none_left (put_held x.held h) (file_of op)

    commit_moved : (b : Bool) → (status_of a.results == NFS4_OK) ≡ b →
        (b ≡ false → status_of a.results ≡ NFS4ERR_BADLAYOUT) →
        IsMid file m (after_all s (commit_answered s c a)) c None (Some op)
        (moved (quiet y) op (on_commit h op a timed))
    unfolding on_commit not_committed
    commit_moved true e fair = rw (e, at_entry) (commit_done (eqb-true (status_of a.results) NFS4_OK e))
    commit_moved false e fair =
        rw (e, eq-eqb (status_of a.results) NFS4ERR_BADLAYOUT (fair refl))
        (commit_over (Status (status_of a.results) a.detail) (λ u i. i))

    pub commit_received : (status_of a.results ≡ NFS4_OK) ⊎ (status_of a.results ≡ NFS4ERR_BADLAYOUT) →
        IsMid file m (after_all s (commit_answered s c a)) c None (Some op) (on_need (quiet y) op (Commit timed) a)
    commit_received fair =
        rw there (commit_moved (status_of a.results == NFS4_OK) refl (λ e. elim fair [
          | inl ok ↦ absurd (true≢false (sym (eq-eqb (status_of a.results) NFS4_OK ok) ∙ e))
          | inr bad ↦ bad
        ]))

  -- ---- a report

  module _ (gone : held_of x.held file ≡ None) (j : ℕ) (none_held : is_loss_taken a ≡ true → s.held c ≡ None) where
    at_none : (u : State) → u.held c ≡ None → HeldIs file m u c (record y { call = None }) None (held_of x.held file)
    at_none u e = rw gone e

    report_by : (b : Bool) → is_loss_taken a ≡ b → ReportIs s c op timed b j →
        IsMid file m (after_all s (report_answered s c a)) c None (Some op) (over (quiet y) (on_report op a timed))
    unfolding on_report
    report_by true e w = rw e (over_now file m c t (record { fresh = k.fresh; used = k.used }) x op _ (at_none t (none_held e))
        (rw here (inr (refl, inr (j, taken_spared s t c (carried s t c (spares c s (event.TakesOther c) tt)) op j w)))))
    report_by false e w =
        let b : State = after t (event.Breaks c (entry_of s c)) in
        let u : State = after b (event.Forgets c) in
        rw e (over_now file m c u (record { fresh = k.fresh; used = k.used }) x op _ (at_none u (forgets_none b c))
        (rw here (forgets_idle b c w.writing.commit_is)))

    pub report_received : ReportIs s c op timed (is_loss_taken a) j →
        IsMid file m (after_all s (report_answered s c a)) c None (Some op) (on_need (quiet y) op (Report timed) a)
    report_received w = report_by (is_loss_taken a) refl w
