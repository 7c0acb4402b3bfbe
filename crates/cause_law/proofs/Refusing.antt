-- A file whose fence was refused since its tag is the greatest, in whatever the server does while it is up: it stays refused, and
-- no job of it begins.
use Rattle.std.proofs.Common.{◌≡◌, ◌||◌, ℕ, ◌+◌, true, List, [], ◌∷◌, Option, Some, None, inl, inr}
use Rattle.std.proofs.lemmas.Bool.{cases_Bool, eq-eqb}
use Rattle.server_rules.specs.declared.limits.TheConstants.{GREATEST_TAG}
use Rattle.server_rules.specs.Commit.{Committed, NoGrant, Wrong, Sizes, by_commit, commits}
use Rattle.server_rules.specs.Get.{Early, BadMode, Invalid, Unable, Waits, On, Late, NoNumber, Lacks, Conflict, Gives, by_late, late, give_or_refuse, fence_first, on_grants, must_fence, by_early, gets}
use Rattle.server_rules.specs.Going.{Going, noting_if, with_components}
use Rattle.server_rules.specs.Grants.{grant_of}
use Rattle.server_rules.specs.Jobs.{declared_in, targets, declares}
use Rattle.server_rules.specs.Numbers.{among}
use Rattle.server_rules.specs.Requests.{serves}
use Rattle.server_rules.specs.Return.{reports_from, takes_loss, by_loss, by_report, by_grant, loss, return_row, by_return, returns_on}
use Rattle.server_rules.specs.Standing.{any_on, lose_on, lose_from}
use Rattle.history_law.specs.Names.{File, Component, Grant, Job, Reported, RequestArgs, Get, Commit, Return}
use Rattle.world_history.specs.ServerNames.{IoErr}

abbrev pub IsSpent : File → Type 0
IsSpent f = (f.spent ≡ true) × (f.job ≡ None) × (f.kept.tag ≡ GREATEST_TAG)

abbrev End : Going → Type 0
End g = IsSpent g.file

-- ---- a drive that is declared

in_none : (g : Going) (d : ℕ) (o : Option Job) → o ≡ None → IsSpent g.file → End (declared_in g d o)
in_none g d None none u = u
in_none g d (Some j) none u = absurd (cc none)

pub spent_declared : (g : Going) (d : ℕ) → IsSpent g.file → End (declares g d)
unfolding declares
spent_declared g d u = elim (cases_Bool (any_on d g.file.kept.components || targets g.file.job d)) [
  | inl e ↦ rw e (in_none (with_components g (lose_on d g.file.kept.components)) d g.file.job u.1 u)
  | inr e ↦ rw e u
]

-- ---- a request

by_late_row : (go : Going) (g : Grant) (l : Late) → End go → End (by_late go g l).going
by_late_row go g NoNumber h = h
by_late_row go g (Lacks k) h = h
by_late_row go g (Conflict holder) h = h
by_late_row go g Gives h = h

given : (go : Going) (next : ℕ) (g : Grant) → End go → End (give_or_refuse go next g).going
unfolding give_or_refuse
given go next g h = by_late_row go g (late go.file.kept next g) h

first : (go : Going) (next format : ℕ) (g : Grant) → End go → End (fence_first go next format g).going
unfolding fence_first
first go next format g u = rw (eq-eqb go.file.kept.tag GREATEST_TAG u.2) u

grants : (go : Going) (next format now : ℕ) (g : Grant) → End go → End (on_grants go next format now g).going
unfolding on_grants
grants go next format now g u = elim (cases_Bool (must_fence now go.file.kept.grants g)) [
  | inl e ↦ rw e (first go next format g u)
  | inr e ↦ rw e (given go next g u)
]

by_early_row : (go : Going) (next format now : ℕ) (g : Grant) (e : Early) → End go
    → End (by_early go next format now g e).going
by_early_row go next format now g BadMode u = u
by_early_row go next format now g Invalid u = u
by_early_row go next format now g Unable u = u
by_early_row go next format now g (Waits k) u = u
by_early_row go next format now g On u = grants go next format now g u

committed : (go : Going) (c : Committed) → End go → End (by_commit go c).going
committed go NoGrant u = u
committed go Wrong u = u
committed go (Sizes size) u = u

reported : (go : Going) (ks : List ℕ) (cs : List Component) (k : ℕ) → End go → End (reports_from go ks cs k)
unfolding reports_from
reported go ks [] k u = u
reported go ks (at ∷ cs) k u = reported (noting_if (among k ks) go (Reported k)) ks cs (k + 1) u

lost : (go : Going) (ks : List ℕ) → End go → End (takes_loss go ks)
unfolding takes_loss
lost go ks u = reported (with_components go (lose_from ks go.file.kept.components 0)) ks go.file.kept.components 0 u

by_loss_row : (go : Going) (format client : ℕ) (o : Option (List ℕ)) → End go
    → End (by_return go format client (by_loss go.file.kept o)).going
by_loss_row go format client (Some ks) u = lost go ks u
by_loss_row go format client None u = rw (eq-eqb go.file.kept.tag GREATEST_TAG u.2) u

by_report_row : (go : Going) (format client : ℕ) (g : Grant) (report : List IoErr) → End go
    → End (by_return go format client (by_report go.file.kept g report)).going
by_report_row go format client g [] u = u
by_report_row go format client g (e ∷ es) u = by_loss_row go format client (loss go.file.kept g (e ∷ es)) u

by_grant_row : (go : Going) (format client : ℕ) (report : List IoErr) (o : Option Grant) → End go
    → End (by_return go format client (by_grant go.file.kept report o)).going
by_grant_row go format client report None u = u
by_grant_row go format client report (Some g) u = by_report_row go format client g report u

pub spent_served : (go : Going) (next format now client : ℕ) (args : RequestArgs) → End go
    → End (serves go next format now client args).going
unfolding gets commits returns_on return_row
spent_served go next format now client (Get iomode offset count) u = by_early_row go next format now _ _ u
spent_served go next format now client (Commit last) u = committed go _ u
spent_served go next format now client (Return report) u =
    by_grant_row go format client report (grant_of go.file.kept.grants client) u
