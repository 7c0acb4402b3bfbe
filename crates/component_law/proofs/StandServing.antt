-- What a request leaves of a file whose components have their objects, or get them.
use Rattle.std.proofs.Common.{◌≡◌, ◌==◌, ℕ, ◌+◌, Bool, true, false, List, [], ◌∷◌, Option, Some, None, refl, sym, ap, subst, if◌then◌else◌}
use Rattle.layout_types.specs.declared.ioerrs.IoErr.{IoErr}
use Rattle.server_rules.specs.declared.limits.TheConstants.{GREATEST_TAG}
use Rattle.server_rules.specs.Commit.{Committed, NoGrant, Wrong, Sizes, by_commit, commits}
use Rattle.server_rules.specs.Get.{Early, BadMode, Invalid, Unable, Waits, On, Late, NoNumber, Lacks, Conflict, Gives, by_late, late, give_or_refuse, after_fence, fence_first, on_grants, must_fence, by_early, gets}
use Rattle.server_rules.specs.Going.{Going, noting_if, with_components}
use Rattle.server_rules.specs.Grants.{without}
use Rattle.server_rules.specs.Jobs.{fence_begins}
use Rattle.server_rules.specs.Numbers.{among}
use Rattle.server_rules.specs.Requests.{serves}
use Rattle.server_rules.specs.Return.{Returned, NoGrant as NotHeld, Clean, Taken, TooMany, Fencing as ToFence, reports_from, takes_loss, return_row, by_return, returns_on}
use Rattle.server_rules.specs.Served.{Served}
use Rattle.server_rules.specs.Standing.{lose_from}
use Rattle.server_rules.proofs.HandlerLaws.{idle}
use Rattle.history_law.specs.Names.{Kept, Grant, Component, Job, Revoking, Reported, RequestArgs, Get, Commit, Return}
use Rattle.history_law.specs.Fencing.{Reached}
use Rattle.history_law.proofs.Asking.{in_lost_from}
use Rattle.component_law.specs.Standing.{IsUnmade}
use Rattle.component_law.proofs.StandHeld.{Ends, FileEnds, ends_lost, ends_granted, ends_without}
use Rattle.component_law.proofs.StandJobs.{ends_fence}

-- no fence begins by a return where no grant is held
none_returned : (f : Kept) (client : ℕ) (report : List IoErr) → return_row f client report ≡ ToFence → f.grants ≡ []
    → ⊥
unfolding return_row
none_returned f client report e none = absurd (cc (rw none at e))

none_without : (gs : List Grant) (client : ℕ) → gs ≡ [] → without gs client ≡ []
none_without gs client none = ap (λ (l : List Grant). without l client) none

module _ (R : Reached) where
  abbrev End : Going → Type 0
  End g = FileEnds R g.file

  abbrev EndsWith : Going → Kept → Option Job → Type 0
  EndsWith g k o = Ends R g.file.kept.tag g.file.kept.components g.file.kept.ready (IsUnmade k) o

  either_served : (b : Bool) (x y : Served) → End x.going → End y.going → End (if b then x else y).going
  either_served true x y p q = p
  either_served false x y p q = q

  -- ---- LAYOUTGET

  -- a grant is given only where no job runs
  ends_late : (go : Going) (g : Grant) (l : Late) → go.file.job ≡ None → End go → End (by_late go g l).going
  ends_late go g NoNumber none h = h
  ends_late go g (Lacks k) none h = h
  ends_late go g (Conflict holder) none h = h
  ends_late go g Gives none h =
      subst (λ (o : Option Job). EndsWith go (by_late go g Gives).going.file.kept o) (sym none)
      (subst (λ (o : Option Job). EndsWith go go.file.kept o) none h)

  ends_given : (go : Going) (next : ℕ) (g : Grant) → go.file.job ≡ None → End go
      → End (give_or_refuse go next g).going
  unfolding give_or_refuse
  ends_given go next g none h = ends_late go g (late go.file.kept next g) none h

  ends_after : (go : Going) (next : ℕ) (g : Grant) (j : Option Job) → go.file.job ≡ j → End go
      → End (after_fence go next g j).going
  ends_after go next g None is h = ends_given go next g is h
  ends_after go next g (Some j) is h = h

  ends_first : (go : Going) (next format : ℕ) (g : Grant) → go.file.job ≡ None → End go
      → End (fence_first go next format g).going
  unfolding fence_first
  ends_first go next format g none h =
      either_served (go.file.kept.tag == GREATEST_TAG) _ _ h
      (ends_after (fence_begins Revoking format go) next g (fence_begins Revoking format go).file.job refl
      (ends_fence R Revoking format go (subst (λ (o : Option Job). EndsWith go go.file.kept o) none h)))

  ends_grants : (go : Going) (next format now : ℕ) (g : Grant) → go.file.job ≡ None → End go
      → End (on_grants go next format now g).going
  unfolding on_grants
  ends_grants go next format now g none h =
      either_served (must_fence now go.file.kept.grants g) _ _ (ends_first go next format g none h)
      (ends_given go next g none h)

  ends_early : (go : Going) (next format now : ℕ) (g : Grant) (e : Early) → (e ≡ On → go.file.job ≡ None) → End go
      → End (by_early go next format now g e).going
  ends_early go next format now g BadMode none h = h
  ends_early go next format now g Invalid none h = h
  ends_early go next format now g Unable none h = h
  ends_early go next format now g (Waits k) none h = h
  ends_early go next format now g On none h = ends_grants go next format now g (none refl) h

  -- ---- LAYOUTCOMMIT and LAYOUTRETURN

  ends_commit : (go : Going) (c : Committed) → End go → End (by_commit go c).going
  ends_commit go NoGrant h = h
  ends_commit go Wrong h = h
  ends_commit go (Sizes size) h = h

  ends_reports : (go : Going) (ks : List ℕ) (cs : List Component) (k : ℕ) → End go → End (reports_from go ks cs k)
  unfolding reports_from
  ends_reports go ks [] k h = h
  ends_reports go ks (at ∷ cs) k h = ends_reports (noting_if (among k ks) go (Reported k)) ks cs (k + 1) h

  ends_loss : (go : Going) (ks : List ℕ) → End go → End (takes_loss go ks)
  unfolding takes_loss
  ends_loss go ks h =
      ends_reports (with_components go (lose_from ks go.file.kept.components 0)) ks go.file.kept.components 0
      (ends_lost R go.file.kept.tag go.file.kept.components go.file.kept.ready (IsUnmade go.file.kept)
      (lose_from ks go.file.kept.components 0) go.file.job (in_lost_from ks go.file.kept.components 0) h)

  -- the client's grant goes
  ends_return_grant : (go : Going) (client : ℕ) → End go
      → EndsWith go (record go.file.kept { grants = without go.file.kept.grants client }) go.file.job
  ends_return_grant go client h =
      let k : Kept = go.file.kept in
      ends_without R k.tag k.components k.ready (IsUnmade k)
      (IsUnmade (record k { grants = without k.grants client })) go.file.job
      (λ x. (none_without k.grants client x.0, x.1, x.2)) h

  ends_return : (go : Going) (format client : ℕ) (r : Returned) → (r ≡ ToFence → go.file.kept.grants ≡ [] → ⊥)
      → End go → End (by_return go format client r).going
  ends_return go format client NotHeld some h = h
  ends_return go format client Clean some h = ends_return_grant go client h
  ends_return go format client (Taken ks) some h = ends_return_grant (takes_loss go ks) client (ends_loss go ks h)
  ends_return go format client TooMany some h = h
  ends_return go format client ToFence some h =
      ends_fence R Revoking format go
      (ends_granted R go.file.kept.tag go.file.kept.components go.file.kept.ready (IsUnmade go.file.kept) go.file.job
      (λ x. some refl x.0) h)

  pub ends_served : (go : Going) (next format now client : ℕ) (args : RequestArgs) → End go
      → End (serves go next format now client args).going
  unfolding gets commits returns_on
  ends_served go next format now client (Get iomode offset count) h =
      ends_early go next format now _ _ (idle go.file iomode offset count) h
  ends_served go next format now client (Commit last) h = ends_commit go _ h
  ends_served go next format now client (Return report) h =
      ends_return go format client (return_row go.file.kept client report)
      (none_returned go.file.kept client report) h
