-- What is so of the grants of a file before a request, and of each grant with a new number, is so of the grants behind it.
use Rattle.std.proofs.Common.{◌≡◌, ◌≤◌, ◌+◌, ◌==◌, ◌++◌, not, min, ℕ, Bool, true, false, List, [], ◌∷◌, Option, Some, None, refl, sym, subst, inl, inr, arith, if◌then◌else◌}
use Rattle.std.specs.Prelude.{nat_lt}
use Rattle.std.proofs.lemmas.Bool.{cases_Bool}
use Rattle.std.proofs.lemmas.Bool.Decides.{nat_tests}
use Rattle.server_rules.specs.declared.limits.TheConstants.{GREATEST_TAG, GREATEST_GRANT}
use Rattle.server_rules.specs.Commit.{Committed, NoGrant as NotCommitted, Wrong, Sizes, commit_row, by_commit, commits}
use Rattle.server_rules.specs.Get.{Early, BadMode, Invalid, Unable, Waits, On, Late, NoNumber, Lacks, Conflict, Gives, late, must_fence, by_late, give_or_refuse, after_fence, fence_first, on_grants, by_early, gets}
use Rattle.server_rules.specs.Going.{Going, noting_if}
use Rattle.server_rules.specs.Grants.{asked, without}
use Rattle.server_rules.specs.Laws.{In}
use Rattle.server_rules.specs.Numbers.{among}
use Rattle.server_rules.specs.Jobs.{fence_begins}
use Rattle.server_rules.specs.Requests.{serves}
use Rattle.server_rules.specs.Return.{Returned, NoGrant, Clean, Taken, TooMany, Fencing, return_row, by_return, returns_on, reports_from, takes_loss}
use Rattle.server_rules.specs.Served.{Served}
use Rattle.server_rules.proofs.HandlerLaws.{fence_leaves_none}
use Rattle.world_history.specs.ServerNames.{Kept, Component, Grant, Job, RequestArgs, Get, Commit, Return, Revoking, Reported}

-- ---- lists of grants

-- each of these grants is so
abbrev pub Grants : (Grant → Type 0) → List Grant → Type 0
Grants Q gs = (g : Grant) → In g gs → Q g

pub none_so : (Q : Grant → Type 0) (gs : List Grant) → gs ≡ [] → Grants Q gs
none_so Q gs e g i = absurd (subst (In g) e i)

more_so : (Q : Grant → Type 0) (gs : List Grant) (x : Grant) → Q x → Grants Q gs → Grants Q (gs ++ x ∷ [])
more_so Q [] x new all g (inl same) = subst Q (sym same) new
more_so Q [] x new all g (inr i) = absurd i
more_so Q (y ∷ gs) x new all g (inl same) = all g (inl same)
more_so Q (y ∷ gs) x new all g (inr i) = more_so Q gs x new (λ z k. all z (inr k)) g i

in_without : (gs : List Grant) (c : ℕ) (g : Grant) → In g (without gs c) → In g gs
in_without [] c g i = absurd i
in_without (x ∷ gs) c g i = by (in_without gs c g) (not (x.client == c)) i
  where
    by : (In g (without gs c) → In g gs) → (b : Bool) → In g (if b then x ∷ without gs c else without gs c) → In g (x ∷ gs)
    by rest true (inl same) = inl same
    by rest true (inr k) = inr (rest k)
    by rest false k = inr (rest k)

pub asks_next : (next : ℕ) (f : Kept) (client now offset count : ℕ) (wide : Bool) →
    (asked f next client now offset count wide).number ≡ min next GREATEST_GRANT
unfolding asked
asks_next next f client now offset count wide = refl

-- what is so of each new number, and of the grants before a request, is so of the grants behind it
module _ (next : ℕ) (Q : Grant → Type 0) (new : (x : Grant) → next ≤ x.number → Q x) where
  abbrev Holds : Served → Type 0
  Holds v = Grants Q v.going.file.kept.grants

  either : (b : Bool) (x y : Served) → Holds x → Holds y → Holds (if b then x else y)
  either true x y p q = p
  either false x y p q = q

  -- ---- LAYOUTGET

  number_low : (f : Kept) (x : Grant) → late f next x ≡ Gives → x.number ≡ min next GREATEST_GRANT → next ≤ x.number
  unfolding late
  number_low f x e is = elim (cases_Bool (nat_lt GREATEST_GRANT next)) [
    | inl t ↦ absurd (cc (rw t at e))
    | inr z ↦ let low : next ≤ GREATEST_GRANT = grind (arith, nat_tests, z) in omega (arith, low, is)
  ]

  so_late : (go : Going) (x : Grant) (l : Late) → late go.file.kept next x ≡ l → x.number ≡ min next GREATEST_GRANT →
      Grants Q go.file.kept.grants → Holds (by_late go x l)
  so_late go x NoNumber e is all = all
  so_late go x (Lacks k) e is all = all
  so_late go x (Conflict holder) e is all = all
  so_late go x Gives e is all = more_so Q go.file.kept.grants x (new x (number_low go.file.kept x e is)) all

  so_given : (go : Going) (x : Grant) → x.number ≡ min next GREATEST_GRANT → Grants Q go.file.kept.grants →
      Holds (give_or_refuse go next x)
  unfolding give_or_refuse
  so_given go x is all = so_late go x (late go.file.kept next x) refl is all

  so_after : (go : Going) (x : Grant) (o : Option Job) → x.number ≡ min next GREATEST_GRANT →
      Grants Q go.file.kept.grants → Holds (after_fence go next x o)
  so_after go x None is all = so_given go x is all
  so_after go x (Some j) is all = all

  -- behind a fence
  pub fenced_so : (go : Going) (format : ℕ) (x : Grant) → x.number ≡ min next GREATEST_GRANT →
      Holds (after_fence (fence_begins Revoking format go) next x (fence_begins Revoking format go).file.job)
  fenced_so go format x is =
      so_after (fence_begins Revoking format go) x (fence_begins Revoking format go).file.job is
      (none_so Q (fence_begins Revoking format go).file.kept.grants (fence_leaves_none Revoking format go))

  so_first : (go : Going) (format : ℕ) (x : Grant) → x.number ≡ min next GREATEST_GRANT →
      Grants Q go.file.kept.grants → Holds (fence_first go next format x)
  unfolding fence_first
  so_first go format x is all = either (go.file.kept.tag == GREATEST_TAG) _ _ all (fenced_so go format x is)

  so_early : (go : Going) (format now : ℕ) (x : Grant) (e : Early) → x.number ≡ min next GREATEST_GRANT →
      Grants Q go.file.kept.grants → Holds (by_early go next format now x e)
  unfolding on_grants
  so_early go format now x BadMode is all = all
  so_early go format now x Invalid is all = all
  so_early go format now x Unable is all = all
  so_early go format now x (Waits k) is all = all
  so_early go format now x On is all =
      either (must_fence now go.file.kept.grants x) _ _ (so_first go format x is all) (so_given go x is all)

  -- ---- LAYOUTCOMMIT and LAYOUTRETURN

  so_commit : (go : Going) (c : Committed) → Grants Q go.file.kept.grants → Holds (by_commit go c)
  so_commit go NotCommitted all = all
  so_commit go Wrong all = all
  so_commit go (Sizes size) all = all

  reports_same : (go : Going) (ks : List ℕ) (cs : List Component) (k : ℕ) →
      (reports_from go ks cs k).file.kept.grants ≡ go.file.kept.grants
  unfolding reports_from
  reports_same go ks [] k = refl
  reports_same go ks (at ∷ cs) k = reports_same (noting_if (among k ks) go (Reported k)) ks cs (k + 1)

  loss_same : (go : Going) (ks : List ℕ) → (takes_loss go ks).file.kept.grants ≡ go.file.kept.grants
  unfolding takes_loss
  loss_same go ks = reports_same _ ks go.file.kept.components 0

  so_return : (go : Going) (format client : ℕ) (r : Returned) → Grants Q go.file.kept.grants →
      Holds (by_return go format client r)
  so_return go format client NoGrant all = all
  so_return go format client Clean all = λ g i. all g (in_without go.file.kept.grants client g i)
  so_return go format client (Taken ks) all =
      λ g i. all g (subst (In g) (loss_same go ks) (in_without (takes_loss go ks).file.kept.grants client g i))
  so_return go format client TooMany all = all
  so_return go format client Fencing all =
      none_so Q (fence_begins Revoking format go).file.kept.grants (fence_leaves_none Revoking format go)

  pub so_served : (go : Going) (format now client : ℕ) (args : RequestArgs) → Grants Q go.file.kept.grants →
      Holds (serves go next format now client args)
  unfolding gets commits returns_on
  so_served go format now client (Get iomode offset count) all =
      so_early go format now _ _ (asks_next next go.file.kept client now offset count _) all
  so_served go format now client (Commit last) all = so_commit go (commit_row go.file.kept client last) all
  so_served go format now client (Return report) all =
      so_return go format client (return_row go.file.kept client report) all
