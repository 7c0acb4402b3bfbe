-- The first line of a client's turn, where the answer to its request comes: its events can happen.
use Rattle.std.proofs.Common.{◌≡◌, ◌==◌, ℕ, Bool, true, false, List, [], ◌∷◌, Option, Some, None, refl, sym, ap, subst, ◌∙◌, if◌then◌else◌}
use Rattle.std.proofs.lemmas.Bool.{eqb-true, true≢false}
use Rattle.data_map.specs.declared.check.RawMap.{RawMap}
use Rattle.layout_ops.specs.declared.args.Args.{Args}
use Rattle.layout_ops.specs.declared.args.Args.TheVariants as args
use Rattle.layout_ops.specs.declared.messages.Answer.{Answer}
use Rattle.layout_ops.specs.declared.statuses.TheConstants.{NFS4_OK}
use Rattle.client_rules.specs.Answers.{is_loss_taken}
use Rattle.client_rules.specs.Calls.{file_of}
use Rattle.client_rules.specs.Results.{status_of}
use Rattle.world_history.specs.ClientNames.{Client, Call, CallOp, Request, TimedOut, Need, First, Get, Commit, Report, Close, Phase, Starts, Needs, Waits, Reads, Probes, Gathers, Scatters}
use Rattle.fence_law.specs.State.{State}
use Rattle.fence_law.specs.State.{Event as event}
use Rattle.fence_law.specs.Machine.{Lawful, after}
use Rattle.fence_law.proofs.Commands.{Calls}
use Rattle.file_simulation.specs.Calls.{IsClient, ReportIs, WaitIs, WaitsCommit}
use Rattle.file_simulation.specs.Requests.{RequestClass, Own, Other, phase_of, return_class}
use Rattle.file_simulation.specs.EventLists.{entry_of}
use Rattle.file_simulation.specs.ClientEvents as table
use Rattle.relation_law.specs.CallsFits.{AnswerFits, AskedFor, IsCommit, IsGet, IsReturn}
use Rattle.relation_law.specs.Requests.{FirstMay}
use Rattle.relation_law.proofs.CallsGuards.{not_waiting, writes_busy, breaks_allowed, forgets_allowed, takes_commit_allowed, takes_refusal_allowed}
use Rattle.relation_law.proofs.CallsReceived.{wait_on}

-- a commit is no return and no LAYOUTGET
no_return : (z : Args) → IsReturn z → IsCommit z → ⊥
no_return (args.LayoutReturn y) a b = b
no_return (args.LayoutGet y) a b = b
no_return (args.LayoutCommit y) a b = a

no_get : (z : Args) → IsGet z → IsCommit z → ⊥
no_get (args.LayoutReturn y) a b = b
no_get (args.LayoutGet y) a b = b
no_get (args.LayoutCommit y) a b = a

phase_same : (p q : Call) → Some p ≡ Some q → p.phase ≡ q.phase
phase_same p q e = cc e

module _ (file : ℕ) (m : RawMap) (c : ℕ) (s : State) (calls : Calls s) (x : Client) (a : Answer) (r : Request)
    (k : IsClient file m s c x (Some a)) (fits : AnswerFits file x a r) where
  -- ---- the answer that a call waits for

  -- a commit is carried out or refused
  commit_lawful : (op : CallOp) (timed : List TimedOut) (j : ℕ) → WaitsCommit s c op timed (Some a) j →
      FirstMay s (table.commit_answered s c a) → Lawful s (table.commit_answered s c a)
  commit_lawful op timed j w = by_status (status_of a.results == NFS4_OK) refl
    where
      by_status : (b : Bool) → (status_of a.results == NFS4_OK) ≡ b → FirstMay s (table.commit_answered s c a) →
          Lawful s (table.commit_answered s c a)
      by_status true e first =
          rw e ((rw e at first), (takes_commit_allowed s c op timed a j w (eqb-true (status_of a.results) NFS4_OK e), tt))
      by_status false e first =
          rw e ((rw e at first), (takes_refusal_allowed s c op timed a j w (λ ok. true≢false (sym (ok_is ok) ∙ e)), tt))
        where
          ok_is : status_of a.results ≡ NFS4_OK → (status_of a.results == NFS4_OK) ≡ true
          ok_is ok = rw ok refl

  -- a report that isn't taken breaks the write off
  report_lawful : (op : CallOp) (timed : List TimedOut) (j : ℕ) → ReportIs s c op timed (is_loss_taken a) j →
      FirstMay s (table.report_answered s c a) → Lawful s (table.report_answered s c a)
  report_lawful op timed j = by_loss (is_loss_taken a) refl
    where
      by_loss : (b : Bool) → is_loss_taken a ≡ b → ReportIs s c op timed (is_loss_taken a) j →
          FirstMay s (table.report_answered s c a) → Lawful s (table.report_answered s c a)
      by_loss true e w first = rw e ((rw e at first), tt)
      by_loss false e w first =
          let z : ReportIs s c op timed false j = rw e at w in
          let free : s.waiting c ≡ false = not_waiting s c calls (writes_busy s c j z.writing.at_) in
          let broken : State = after (after s (event.TakesOther c)) (event.Breaks c (entry_of s c)) in
          rw e (
            (rw e at first),
            (
              breaks_allowed s c op j z.writing,
              (forgets_allowed broken c free z.writing.commit_is, tt),
            ),
          )

  module _ (here : (r.file == file) ≡ true) (op : CallOp) (n : Need)
      (is : x.call ≡ Some (record { op = op; phase = Waits n })) where
    on_file : (file_of op == file) ≡ true
    on_file = ap (λ (f : ℕ). f == file) (sym (fits.waits op n is).0) ∙ here

    wait_is : WaitIs s c op (Some a) n
    wait_is = wait_on file m s c x a op n on_file is k.call

  -- ---- any answer

  module _ (here : (r.file == file) ≡ true) where
    abbrev Commits_ : Type 0
    Commits_ = FirstMay s (table.commit_answered s c a) → Lawful s (table.commit_answered s c a)

    abbrev Reports_ : Type 0
    Reports_ = FirstMay s (table.report_answered s c a) → Lawful s (table.report_answered s c a)

    -- a commit is asked by a call that waits for it
    commit_need : (op : CallOp) (n : Need) → x.call ≡ Some (record { op = op; phase = Waits n }) → AskedFor n r.args →
        IsCommit r.args → Commits_
    commit_need op (Commit timed) is asked it first =
        let w = wait_is here op (Commit timed) is in commit_lawful op timed w.0 w.1 first
    commit_need op First is asked it first = absurd (no_return r.args asked it)
    commit_need op (Report timed) is asked it first = absurd (no_return r.args asked it)
    commit_need op (Close u report) is asked it first = absurd (no_return r.args asked it)
    commit_need op (Get tries) is asked it first = absurd (no_get r.args asked it)

    commit_by : (z : Option Call) → x.call ≡ z → IsCommit r.args → Commits_
    commit_by None is it first = absurd (no_return r.args (fits.due (λ op n e. cc (sym is ∙ e))) it)
    commit_by (Some call) is it first = by_phase call.phase refl
      where
        other : ((n : Need) → call.phase ≡ Waits n → ⊥) → Lawful s (table.commit_answered s c a)
        other none = absurd (no_return r.args
            (fits.due (λ op n e. none n (phase_same call (record { op = op; phase = Waits n }) (sym is ∙ e)))) it)

        by_phase : (p : Phase) → call.phase ≡ p → Lawful s (table.commit_answered s c a)
        by_phase (Waits n) e =
            let at = is ∙ ap (λ (q : Phase). Some (record { op = call.op; phase = q })) e in
            commit_need call.op n at (fits.waits call.op n at).1 it first
        by_phase Starts e = other (λ n z. cc (sym e ∙ z))
        by_phase (Needs i) e = other (λ n z. cc (sym e ∙ z))
        by_phase (Reads io) e = other (λ n z. cc (sym e ∙ z))
        by_phase (Probes io) e = other (λ n z. cc (sym e ∙ z))
        by_phase (Gathers io) e = other (λ n z. cc (sym e ∙ z))
        by_phase (Scatters io queue) e = other (λ n z. cc (sym e ∙ z))

    -- a return that isn't the machine's own is a report
    report_phase : (op : CallOp) (p : Phase) → x.call ≡ Some (record { op = op; phase = p }) →
        return_class (Some p) ≡ Other → Reports_
    report_phase op (Waits (Report timed)) is e first =
        let w = wait_is here op (Report timed) is in report_lawful op timed w.0 w.1 first
    report_phase op (Waits First) is e first = absurd (cc e)
    report_phase op (Waits (Get tries)) is e first = absurd (cc e)
    report_phase op (Waits (Commit timed)) is e first = absurd (cc e)
    report_phase op (Waits (Close u [])) is e first = absurd (cc e)
    report_phase op (Waits (Close u (i ∷ es))) is e first = absurd (cc e)
    report_phase op Starts is e first = absurd (cc e)
    report_phase op (Needs i) is e first = absurd (cc e)
    report_phase op (Reads io) is e first = absurd (cc e)
    report_phase op (Probes io) is e first = absurd (cc e)
    report_phase op (Gathers io) is e first = absurd (cc e)
    report_phase op (Scatters io queue) is e first = absurd (cc e)

    report_by : (z : Option Call) → x.call ≡ z → return_class (phase_of z) ≡ Other → Reports_
    report_by None is e first = absurd (cc e)
    report_by (Some call) is e first = report_phase call.op call.phase is e first

    return_by : (z : RequestClass) → return_class (phase_of x.call) ≡ z → FirstMay s (table.return_answered s c a z) →
        Lawful s (table.return_answered s c a z)
    return_by (Own kind) e first = (first, tt)
    return_by Other e first = report_by x.call refl e first

    args_by : (z : Args) → r.args ≡ z → FirstMay s (table.answered_here s c a (phase_of x.call) z) →
        Lawful s (table.answered_here s c a (phase_of x.call) z)
    args_by (args.LayoutGet y) e first = (first, tt)
    args_by (args.LayoutCommit y) e first = commit_by x.call refl (subst IsCommit (sym e) tt) first
    args_by (args.LayoutReturn y) e first = return_by (return_class (phase_of x.call)) refl first

    on_the_file : FirstMay s (table.answered_here s c a (phase_of x.call) r.args) →
        Lawful s (table.answered_here s c a (phase_of x.call) r.args)
    on_the_file first = args_by r.args refl first

  by_file : (b : Bool) → (r.file == file) ≡ b →
      FirstMay s (if b then table.answered_here s c a (phase_of x.call) r.args else event.TakesOther c ∷ []) →
      Lawful s (if b then table.answered_here s c a (phase_of x.call) r.args else event.TakesOther c ∷ [])
  by_file true e first = on_the_file e first
  by_file false e first = (first, tt)

  -- All events of the answer can happen, if the first can.
  pub answered_lawful : FirstMay s (table.answered s file c x a (Some r)) → Lawful s (table.answered s file c x a (Some r))
  answered_lawful first = by_file (r.file == file) refl first
