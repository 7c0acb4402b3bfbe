-- What a client's request leaves of a file, where notes, grants and the size are no part of it.
use Rattle.std.proofs.Common.{◌≡◌, ◌==◌, ℕ, ◌+◌, Bool, true, false, List, [], ◌∷◌, Option, Some, None, refl, if◌then◌else◌}
use Rattle.server_rules.specs.declared.limits.TheConstants.{GREATEST_TAG}
use Rattle.server_rules.specs.Commit.{Committed, NoGrant, Wrong, Sizes, by_commit, commits}
use Rattle.server_rules.specs.Get.{Early, BadMode, Invalid, Unable, Waits, On, Late, NoNumber, Lacks, Conflict, Gives, by_late, late, give_or_refuse, after_fence, fence_first, on_grants, must_fence, by_early, gets}
use Rattle.server_rules.specs.Going.{Going, keeping, noting_if, with_components}
use Rattle.server_rules.specs.Grants.{without}
use Rattle.server_rules.specs.Jobs.{fence_begins}
use Rattle.server_rules.specs.Numbers.{among}
use Rattle.server_rules.specs.Requests.{serves}
use Rattle.server_rules.specs.Return.{Returned, NoGrant as NotHeld, Clean, Taken, TooMany, Fencing as ToFence, reports_from, takes_loss, by_return, returns_on}
use Rattle.server_rules.specs.Served.{Served}
use Rattle.server_rules.specs.Standing.{lose_from}
use Rattle.component_law.specs.KeptWalk.{is_plain}
use Rattle.history_law.specs.Names.{Grant, Component, Job, NoteKind, Revoking, Reported, Spent, RequestArgs, Get, Commit, Return}

-- `Hold` is so of the file before the request, and `End` behind it.
pub record IsServed (Hold End : Going → Type 0) : Type 0 where
  pub stays : (g : Going) → Hold g → End g
  -- a fence begins, or components become missing
  pub fence : (format : ℕ) (g : Going) → Hold g → End (fence_begins Revoking format g)
  pub lost : (g : Going) (ks : List ℕ) → Hold g → End (with_components g (lose_from ks g.file.kept.components 0))
  -- what is no part of it
  pub noted : (g : Going) (b : Bool) (n : NoteKind) → is_plain n ≡ true → End g → End (noting_if b g n)
  pub granted : (g : Going) (gs : List Grant) (high : ℕ) → End g
      → End (keeping g (record g.file.kept { grants = gs; high = high }))
  pub sized : (g : Going) (size : ℕ) → End g → End (keeping g (record g.file.kept { size = size }))

module _ (Hold End : Going → Type 0) (w : IsServed Hold End) where
  either_served : (b : Bool) (x y : Served) → End x.going → End y.going → End (if b then x else y).going
  either_served true x y p q = p
  either_served false x y p q = q

  -- ---- LAYOUTGET

  ends_late : (go : Going) (g : Grant) (l : Late) → End go → End (by_late go g l).going
  ends_late go g NoNumber h = h
  ends_late go g (Lacks k) h = h
  ends_late go g (Conflict holder) h = h
  ends_late go g Gives h = w.granted go _ _ h

  ends_given : (go : Going) (next : ℕ) (g : Grant) → End go → End (give_or_refuse go next g).going
  unfolding give_or_refuse
  ends_given go next g h = ends_late go g (late go.file.kept next g) h

  ends_after : (go : Going) (next : ℕ) (g : Grant) (j : Option Job) → End go → End (after_fence go next g j).going
  ends_after go next g None h = ends_given go next g h
  ends_after go next g (Some j) h = h

  ends_first : (go : Going) (next format : ℕ) (g : Grant) → Hold go → End (fence_first go next format g).going
  unfolding fence_first
  ends_first go next format g h =
      either_served (go.file.kept.tag == GREATEST_TAG) _ _ (w.noted go true Spent refl (w.stays go h))
      (ends_after (fence_begins Revoking format go) next g (fence_begins Revoking format go).file.job (w.fence format go h))

  ends_grants : (go : Going) (next format now : ℕ) (g : Grant) → Hold go → End (on_grants go next format now g).going
  unfolding on_grants
  ends_grants go next format now g h =
      either_served (must_fence now go.file.kept.grants g) _ _ (ends_first go next format g h)
      (ends_given go next g (w.stays go h))

  ends_early : (go : Going) (next format now : ℕ) (g : Grant) (e : Early) → Hold go
      → End (by_early go next format now g e).going
  ends_early go next format now g BadMode h = w.stays go h
  ends_early go next format now g Invalid h = w.stays go h
  ends_early go next format now g Unable h = w.stays go h
  ends_early go next format now g (Waits k) h = w.stays go h
  ends_early go next format now g On h = ends_grants go next format now g h

  -- ---- LAYOUTCOMMIT and LAYOUTRETURN

  ends_commit : (go : Going) (c : Committed) → End go → End (by_commit go c).going
  ends_commit go NoGrant h = h
  ends_commit go Wrong h = h
  ends_commit go (Sizes size) h = w.sized go size h

  ends_reports : (go : Going) (ks : List ℕ) (cs : List Component) (k : ℕ) → End go → End (reports_from go ks cs k)
  unfolding reports_from
  ends_reports go ks [] k h = h
  ends_reports go ks (at ∷ cs) k h =
      ends_reports (noting_if (among k ks) go (Reported k)) ks cs (k + 1) (w.noted go (among k ks) (Reported k) refl h)

  ends_loss : (go : Going) (ks : List ℕ) → Hold go → End (takes_loss go ks)
  unfolding takes_loss
  ends_loss go ks h =
      ends_reports (with_components go (lose_from ks go.file.kept.components 0)) ks go.file.kept.components 0
      (w.lost go ks h)

  -- the client's grant goes
  ends_grant_of : (go : Going) (client : ℕ) → End go
      → End (keeping go (record go.file.kept { grants = without go.file.kept.grants client }))
  ends_grant_of go client h = w.granted go (without go.file.kept.grants client) go.file.kept.high h

  ends_return : (go : Going) (format client : ℕ) (r : Returned) → Hold go → End (by_return go format client r).going
  ends_return go format client NotHeld h = w.stays go h
  ends_return go format client Clean h = ends_grant_of go client (w.stays go h)
  ends_return go format client (Taken ks) h = ends_grant_of (takes_loss go ks) client (ends_loss go ks h)
  ends_return go format client TooMany h = w.noted go true Spent refl (w.stays go h)
  ends_return go format client ToFence h = w.fence format go h

  pub ends_served : (go : Going) (next format now client : ℕ) (args : RequestArgs) → Hold go
      → End (serves go next format now client args).going
  unfolding gets commits returns_on
  ends_served go next format now client (Get iomode offset count) h = ends_early go next format now _ _ h
  ends_served go next format now client (Commit last) h = ends_commit go _ (w.stays go h)
  ends_served go next format now client (Return report) h = ends_return go format client _ h
