-- What lasts through each part of a job lasts through a client's request.
-- Towards `ComponentsGoOn` (`specs/Steps.antt`).
use Rattle.std.proofs.Common.{◌≡◌, ◌==◌, ℕ, ◌+◌, ◌++◌, Bool, true, false, List, [], ◌∷◌, Option, Some, None, refl, sym, subst, ◌∙◌, append_assoc, inl, inr, if◌then◌else◌}
use Rattle.std.proofs.lemmas.Bool.{cases_Bool}
use Rattle.std.proofs.lemmas.List.{append-nil}
use Rattle.server_rules.specs.declared.limits.TheConstants.{GREATEST_TAG}
use Rattle.server_rules.specs.Commit.{Committed, NoGrant as NoneCommits, Wrong, Sizes, by_commit, commit_row, commits}
use Rattle.server_rules.specs.Get.{Early, BadMode, Invalid, Unable, Waits, On, Late, NoNumber, Lacks, Conflict, Gives, late, early, must_fence, by_late, give_or_refuse, after_fence, fence_first, on_grants, by_early, gets}
use Rattle.server_rules.specs.Going.{Going, keeping, noting_if}
use Rattle.server_rules.specs.Jobs.{fence_begins}
use Rattle.server_rules.specs.Numbers.{among}
use Rattle.server_rules.specs.Requests.{serves}
use Rattle.server_rules.specs.Return.{Returned, NoGrant, Clean, Taken, TooMany, Fencing, by_return, return_row, reports_from, takes_loss, returns_on}
use Rattle.server_rules.specs.Standing.{lose_from}
use Rattle.world_history.specs.ServerNames.{IoErr, RequestArgs, Get, Commit, Return, Reported, Spent, Grant, Kept, Component, Job, Note, Revoking}
use Rattle.relation_law.specs.ComponentsWalk.{reports_of, IsWalked, TakesReports}
use Rattle.relation_law.proofs.ComponentsJobs.{Own, own_fence}

-- ---- reports

record Reports (g h : Going) (more : List Note) : Type 0 where
  file : h.file ≡ g.file
  notes : h.effects.notes ≡ g.effects.notes ++ more

reports : (g : Going) (ks : List ℕ) (cs : List Component) (k : ℕ) →
    Reports g (reports_from g ks cs k) (reports_of g.file.kept.number ks cs k)
unfolding reports_from reports_of
reports g ks [] k = record { file = refl; notes = sym (append-nil g.effects.notes) }
reports g ks (at ∷ cs) k =
    one (among k ks) (reports (noting_if true g (Reported k)) ks cs (k + 1))
    (reports (noting_if false g (Reported k)) ks cs (k + 1))
  where
    one : (b : Bool) →
        Reports (noting_if true g (Reported k)) (reports_from (noting_if true g (Reported k)) ks cs (k + 1))
        (reports_of g.file.kept.number ks cs (k + 1)) →
        Reports (noting_if false g (Reported k)) (reports_from (noting_if false g (Reported k)) ks cs (k + 1))
        (reports_of g.file.kept.number ks cs (k + 1)) →
        Reports g (reports_from (noting_if b g (Reported k)) ks cs (k + 1))
        ((if b then record { file = g.file.kept.number; kind = Reported k } ∷ [] else [])
        ++ reports_of g.file.kept.number ks cs (k + 1))
    one true r q = record {
      file = r.file;
      notes = r.notes ∙ append_assoc g.effects.notes (record { file = g.file.kept.number; kind = Reported k } ∷ []) _;
    }
    one false r q = record { file = q.file; notes = q.notes }

module _ (Q : Kept → List Note → Type 0) (w : IsWalked Q) (takes : TakesReports Q) where
  own_loss : (g : Going) (ks : List ℕ) → Own Q w g → Own Q w (takes_loss g ks)
  unfolding takes_loss
  own_loss g ks h =
      let k : Kept = record g.file.kept { components = lose_from ks g.file.kept.components 0 } in
      let r = reports (keeping g k) ks g.file.kept.components 0 in
      subst (λ (n : List Note). Q (takes_loss g ks).file.kept n) (sym r.notes)
      (subst (λ f. Q f.kept (g.effects.notes ++ reports_of g.file.kept.number ks g.file.kept.components 0)) (sym r.file)
      (takes g.file.kept g.effects.notes ks h))

  -- ---- LAYOUTGET

  own_late : (go : Going) (g : Grant) (l : Late) → Own Q w go → Own Q w (by_late go g l).going
  own_late go g NoNumber h = h
  own_late go g (Lacks k) h = h
  own_late go g (Conflict holder) h = h
  own_late go g Gives h = w.same go.file.kept _ go.effects.notes refl refl h

  own_given : (go : Going) (next : ℕ) (g : Grant) → Own Q w go → Own Q w (give_or_refuse go next g).going
  unfolding give_or_refuse
  own_given go next g h = own_late go g (late go.file.kept next g) h

  own_after_fence : (go : Going) (next : ℕ) (g : Grant) (j : Option Job) → Own Q w go →
      Own Q w (after_fence go next g j).going
  own_after_fence go next g None h = own_given go next g h
  own_after_fence go next g (Some j) h = h

  own_fence_first : (go : Going) (next format : ℕ) (g : Grant) → Own Q w go → Own Q w (fence_first go next format g).going
  unfolding fence_first
  own_fence_first go next format g h = elim (cases_Bool (go.file.kept.tag == GREATEST_TAG)) [
    | inl e ↦ rw e (w.silent go.file.kept go.effects.notes Spent refl h)
    | inr e ↦ rw e
        (own_after_fence (fence_begins Revoking format go) next g (fence_begins Revoking format go).file.job
        (own_fence Q w Revoking format go h))
  ]

  own_on_grants : (go : Going) (next format now : ℕ) (g : Grant) → Own Q w go → Own Q w (on_grants go next format now g).going
  unfolding on_grants
  own_on_grants go next format now g h = elim (cases_Bool (must_fence now go.file.kept.grants g)) [
    | inl e ↦ rw e (own_fence_first go next format g h)
    | inr e ↦ rw e (own_given go next g h)
  ]

  own_early : (go : Going) (next format now : ℕ) (g : Grant) (e : Early) → Own Q w go →
      Own Q w (by_early go next format now g e).going
  own_early go next format now g BadMode h = h
  own_early go next format now g Invalid h = h
  own_early go next format now g Unable h = h
  own_early go next format now g (Waits k) h = h
  own_early go next format now g On h = own_on_grants go next format now g h

  own_gets : (go : Going) (next format now client iomode offset count : ℕ) → Own Q w go →
      Own Q w (gets go next format now client iomode offset count).going
  unfolding gets
  own_gets go next format now client iomode offset count h =
      own_early go next format now _ (early go.file iomode offset count) h

  -- ---- LAYOUTCOMMIT and LAYOUTRETURN

  own_commit : (go : Going) (c : Committed) → Own Q w go → Own Q w (by_commit go c).going
  own_commit go NoneCommits h = h
  own_commit go Wrong h = h
  own_commit go (Sizes size) h = w.same go.file.kept _ go.effects.notes refl refl h

  own_commits : (go : Going) (client : ℕ) (last : Option ℕ) → Own Q w go → Own Q w (commits go client last).going
  unfolding commits
  own_commits go client last h = own_commit go (commit_row go.file.kept client last) h

  own_return : (go : Going) (format client : ℕ) (r : Returned) → Own Q w go → Own Q w (by_return go format client r).going
  own_return go format client NoGrant h = h
  own_return go format client Clean h = w.same go.file.kept _ go.effects.notes refl refl h
  own_return go format client (Taken ks) h =
      w.same (takes_loss go ks).file.kept _ (takes_loss go ks).effects.notes refl refl (own_loss go ks h)
  own_return go format client TooMany h = w.silent go.file.kept go.effects.notes Spent refl h
  own_return go format client Fencing h = own_fence Q w Revoking format go h

  own_returns : (go : Going) (format client : ℕ) (report : List IoErr) → Own Q w go →
      Own Q w (returns_on go format client report).going
  unfolding returns_on
  own_returns go format client report h = own_return go format client (return_row go.file.kept client report) h

  pub own_serves : (go : Going) (next format now client : ℕ) (r : RequestArgs) → Own Q w go →
      Own Q w (serves go next format now client r).going
  own_serves go next format now client (Get iomode offset count) h = own_gets go next format now client iomode offset count h
  own_serves go next format now client (Commit last) h = own_commits go client last h
  own_serves go next format now client (Return report) h = own_returns go format client report h
