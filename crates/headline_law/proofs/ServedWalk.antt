-- What a request notes and does, once for all facts of a step's effects: it begins a fence at most, and notes that the tag is
-- spent, or which components were reported.
use Rattle.std.proofs.Common.{◌==◌, ℕ, ◌+◌, Bool, true, false, List, [], ◌∷◌, Option, Some, None, if◌then◌else◌}
use Rattle.server_rules.specs.declared.limits.TheConstants.{GREATEST_TAG}
use Rattle.server_rules.specs.Commit.{Committed, Sizes, by_commit, commit_row, commits}
use Rattle.server_rules.specs.Get.{Early, On, Late, Gives, by_late, late, give_or_refuse, after_fence, fence_first, on_grants, must_fence, by_early, gets}
use Rattle.server_rules.specs.Going.{Going, keeping, noting, noting_if}
use Rattle.server_rules.specs.Jobs.{fence_begins}
use Rattle.server_rules.specs.Numbers.{among}
use Rattle.server_rules.specs.Requests.{serves}
use Rattle.server_rules.specs.Return.{Returned, NoGrant as NotHeld, Clean, Taken, TooMany, Fencing as ToFence, by_return, return_row, reports_from, takes_loss, returns_on}
use Rattle.server_rules.specs.Served.{Served}
use Rattle.server_rules.specs.Standing.{lose_from}
use Rattle.world_history.specs.ServerNames.{Component, Effects, Grant, Job, Revoking, Spent, Reported, RequestArgs, Get, Commit, Return}

-- P is so at the beginning, behind a fence, and behind each of those notes.
pub record ServedCases (P : Effects → Type 0) (go : Going) : Type 0 where
  pub begins : P go.effects
  pub fences : (format : ℕ) → P (fence_begins Revoking format go).effects
  pub spent : (g : Going) → P g.effects → P (noting g Spent).effects
  pub reported : (k : ℕ) (g : Going) → P g.effects → P (noting g (Reported k)).effects

module _ (P : Effects → Type 0) (go : Going) (k : ServedCases P go) where
  abbrev Been : Served → Type 0
  Been v = P v.going.effects

  either : (b : Bool) (x y : Served) → Been x → Been y → Been (if b then x else y)
  either true x y p q = p
  either false x y p q = q

  late_been : (g : Going) (x : Grant) (l : Late) → P g.effects → Been (by_late g x l)
  late_been g x Gives q = q
  late_been g x l q = q

  given : (g : Going) (next : ℕ) (x : Grant) → P g.effects → Been (give_or_refuse g next x)
  unfolding give_or_refuse
  given g next x q = late_been g x (late g.file.kept next x) q

  behind_fence : (g : Going) (next : ℕ) (x : Grant) (o : Option Job) → P g.effects → Been (after_fence g next x o)
  behind_fence g next x None q = given g next x q
  behind_fence g next x (Some j) q = q

  first : (next format : ℕ) (x : Grant) → Been (fence_first go next format x)
  unfolding fence_first
  first next format x =
      either (go.file.kept.tag == GREATEST_TAG) _ _ (k.spent go k.begins)
      (behind_fence (fence_begins Revoking format go) next x (fence_begins Revoking format go).file.job (k.fences format))

  early_been : (next format now : ℕ) (x : Grant) (e : Early) → Been (by_early go next format now x e)
  unfolding on_grants
  early_been next format now x On =
      either (must_fence now go.file.kept.grants x) _ _ (first next format x) (given go next x k.begins)
  early_been next format now x e = k.begins

  commit_been : (c : Committed) → Been (by_commit go c)
  commit_been (Sizes size) = k.begins
  commit_been c = k.begins

  reported_if : (b : Bool) (n : ℕ) (g : Going) → P g.effects → P (noting_if b g (Reported n)).effects
  reported_if true n g q = k.reported n g q
  reported_if false n g q = q

  all_reported : (g : Going) (ks : List ℕ) (cs : List Component) (n : ℕ) → P g.effects → P (reports_from g ks cs n).effects
  unfolding reports_from
  all_reported g ks [] n q = q
  all_reported g ks (at ∷ cs) n q =
      all_reported (noting_if (among n ks) g (Reported n)) ks cs (n + 1) (reported_if (among n ks) n g q)

  return_been : (format client : ℕ) (r : Returned) → Been (by_return go format client r)
  unfolding takes_loss
  return_been format client NotHeld = k.begins
  return_been format client Clean = k.begins
  return_been format client (Taken ks) =
      all_reported (keeping go (record go.file.kept { components = lose_from ks go.file.kept.components 0 })) ks
      go.file.kept.components 0 k.begins
  return_been format client TooMany = k.spent go k.begins
  return_been format client ToFence = k.fences format

  pub walk_serves : (next format now client : ℕ) (args : RequestArgs) → P (serves go next format now client args).going.effects
  unfolding gets commits returns_on
  walk_serves next format now client (Get iomode offset count) = early_been next format now _ _
  walk_serves next format now client (Commit last) = commit_been (commit_row go.file.kept client last)
  walk_serves next format now client (Return report) = return_been format client (return_row go.file.kept client report)
