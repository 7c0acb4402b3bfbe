-- What a request leaves of the order of a file's grants.
use Rattle.std.proofs.Common.{◌≡◌, ◌==◌, ℕ, ◌+◌, ◌≤◌, nat_lt, min, Bool, true, false, List, [], ◌∷◌, Option, Some, None, refl, arith, inl, inr, if◌then◌else◌}
use Rattle.std.proofs.lemmas.Bool.{cases_Bool}
use Rattle.std.proofs.lemmas.Bool.Decides.{nat_tests}
use Rattle.server_rules.specs.declared.limits.TheConstants.{GREATEST_TAG, GREATEST_GRANT}
use Rattle.server_rules.specs.Commit.{Committed, NoGrant, Wrong, Sizes, by_commit, commits}
use Rattle.server_rules.specs.Get.{Early, BadMode, Invalid, Unable, Waits, On, Late, NoNumber, Lacks, Conflict, Gives, by_late, late, give_or_refuse, after_fence, fence_first, on_grants, must_fence, by_early, gets}
use Rattle.server_rules.specs.Going.{Going, noting_if, with_components}
use Rattle.server_rules.specs.Grants.{asked}
use Rattle.server_rules.specs.Jobs.{fence_begins}
use Rattle.server_rules.specs.Numbers.{among}
use Rattle.server_rules.specs.Requests.{serves}
use Rattle.server_rules.specs.Return.{Returned, NoGrant as NotHeld, Clean, Taken, TooMany, Fencing as ToFence, reports_from, takes_loss, ends_grant, return_row, by_return, returns_on}
use Rattle.server_rules.specs.Served.{Served}
use Rattle.server_rules.specs.Standing.{lose_from}
use Rattle.world_history.specs.ServerNames.{Kept, Grant, Component, Job, Revoking, Reported, RequestArgs, Get, Commit, Return}
use Rattle.component_law.specs.Order.{IsInOrder}
use Rattle.component_law.proofs.PartyLists.{same_order, later_order, more_order, less_order}
use Rattle.component_law.proofs.PartyJobs.{order_fence}

-- a number is given where there is one
has_number : (f : Kept) (next : ℕ) (g : Grant) → late f next g ≡ Gives → next ≤ GREATEST_GRANT
unfolding late
has_number f next g e = elim (cases_Bool (nat_lt GREATEST_GRANT next)) [
  | inl t ↦ absurd (cc (rw t at e))
  | inr z ↦ grind (arith, nat_tests, z)
]

-- a LAYOUTGET asks for the next number
asks_next : (f : Kept) (next client now offset count : ℕ) (rw_ : Bool)
    → (asked f next client now offset count rw_).number ≡ min next GREATEST_GRANT
unfolding asked
asks_next f next client now offset count rw_ = refl

is_next : (next number : ℕ) → next ≤ GREATEST_GRANT → number ≡ min next GREATEST_GRANT → number ≡ next
is_next next number le e = omega (arith, le, e)

module _ (next : ℕ) where
  abbrev Orders : Going → Type 0
  Orders g = IsInOrder next g.file

  -- with the numbers that were used
  abbrev ServesInOrder : Served → Type 0
  ServesInOrder v = IsInOrder (next + v.numbers) v.going.file

  either : (b : Bool) (x y : Served) → ServesInOrder x → ServesInOrder y → ServesInOrder (if b then x else y)
  either true x y p q = p
  either false x y p q = q

  -- no number was used
  no_more : (g : Going) → Orders g → IsInOrder (next + 0) g.file
  no_more g o = later_order next (next + 0) g.file (omega arith) o

  -- ---- LAYOUTGET

  order_late : (go : Going) (g : Grant) (l : Late) → late go.file.kept next g ≡ l
      → g.number ≡ min next GREATEST_GRANT → Orders go → ServesInOrder (by_late go g l)
  order_late go g NoNumber e is o = no_more go o
  order_late go g (Lacks k) e is o = no_more go o
  order_late go g (Conflict holder) e is o = no_more go o
  order_late go g Gives e is o =
      more_order next go.file (by_late go g Gives).going.file g refl
      (is_next next g.number (has_number go.file.kept next g e) is) o

  order_given : (go : Going) (g : Grant) → g.number ≡ min next GREATEST_GRANT → Orders go
      → ServesInOrder (give_or_refuse go next g)
  unfolding give_or_refuse
  order_given go g is o = order_late go g (late go.file.kept next g) refl is o

  order_after : (go : Going) (g : Grant) (j : Option Job) → g.number ≡ min next GREATEST_GRANT → Orders go
      → ServesInOrder (after_fence go next g j)
  order_after go g None is o = order_given go g is o
  order_after go g (Some j) is o = no_more go o

  order_first : (go : Going) (format : ℕ) (g : Grant) → g.number ≡ min next GREATEST_GRANT → Orders go
      → ServesInOrder (fence_first go next format g)
  unfolding fence_first
  order_first go format g is o =
      either (go.file.kept.tag == GREATEST_TAG) _ _ (no_more go o)
      (order_after (fence_begins Revoking format go) g (fence_begins Revoking format go).file.job is
      (order_fence next Revoking format go))

  order_grants : (go : Going) (format now : ℕ) (g : Grant) → g.number ≡ min next GREATEST_GRANT → Orders go
      → ServesInOrder (on_grants go next format now g)
  unfolding on_grants
  order_grants go format now g is o =
      either (must_fence now go.file.kept.grants g) _ _ (order_first go format g is o) (order_given go g is o)

  order_early : (go : Going) (format now : ℕ) (g : Grant) (e : Early) → g.number ≡ min next GREATEST_GRANT
      → Orders go → ServesInOrder (by_early go next format now g e)
  order_early go format now g BadMode is o = no_more go o
  order_early go format now g Invalid is o = no_more go o
  order_early go format now g Unable is o = no_more go o
  order_early go format now g (Waits k) is o = no_more go o
  order_early go format now g On is o = order_grants go format now g is o

  -- ---- LAYOUTCOMMIT and LAYOUTRETURN

  order_commit : (go : Going) (c : Committed) → Orders go → ServesInOrder (by_commit go c)
  order_commit go NoGrant o = no_more go o
  order_commit go Wrong o = no_more go o
  order_commit go (Sizes size) o =
      no_more (by_commit go (Sizes size)).going
      (same_order next go.file (by_commit go (Sizes size)).going.file refl o)

  order_reports : (go : Going) (ks : List ℕ) (cs : List Component) (k : ℕ) → Orders go
      → Orders (reports_from go ks cs k)
  unfolding reports_from
  order_reports go ks [] k o = o
  order_reports go ks (at ∷ cs) k o = order_reports (noting_if (among k ks) go (Reported k)) ks cs (k + 1) o

  order_loss : (go : Going) (ks : List ℕ) → Orders go → Orders (takes_loss go ks)
  unfolding takes_loss
  order_loss go ks o =
      let lost : Going = with_components go (lose_from ks go.file.kept.components 0) in
      order_reports lost ks go.file.kept.components 0 (same_order next go.file lost.file refl o)

  order_ended : (go : Going) (client : ℕ) → Orders go → IsInOrder (next + 0) (ends_grant go client).file
  order_ended go client o =
      no_more (ends_grant go client) (less_order next client go.file (ends_grant go client).file refl o)

  order_return : (go : Going) (format client : ℕ) (r : Returned) → Orders go
      → ServesInOrder (by_return go format client r)
  order_return go format client NotHeld o = no_more go o
  order_return go format client Clean o = order_ended go client o
  order_return go format client (Taken ks) o = order_ended (takes_loss go ks) client (order_loss go ks o)
  order_return go format client TooMany o = no_more go o
  order_return go format client ToFence o =
      no_more (fence_begins Revoking format go) (order_fence next Revoking format go)

  pub order_served : (go : Going) (format now client : ℕ) (args : RequestArgs) → Orders go
      → ServesInOrder (serves go next format now client args)
  unfolding gets commits returns_on
  order_served go format now client (Get iomode offset count) o =
      order_early go format now _ _ (asks_next go.file.kept next client now offset count _) o
  order_served go format now client (Commit last) o = order_commit go _ o
  order_served go format now client (Return report) o =
      order_return go format client (return_row go.file.kept client report) o
