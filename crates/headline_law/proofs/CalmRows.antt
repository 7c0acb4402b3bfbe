-- What a client's request makes of a file's grants: those that weren't live before it are new, and where a fence begins, all are.
use Rattle.std.proofs.Common.{◌≡◌, ◌≤◌, ◌+◌, ◌==◌, min, ℕ, Bool, true, false, List, [], ◌∷◌, refl, sym, ◌∙◌, if◌then◌else◌}
use Rattle.std.proofs.lemmas.Bool.{true≢false}
use Rattle.server_rules.specs.declared.limits.TheConstants.{GREATEST_TAG, GREATEST_GRANT}
use Rattle.server_rules.specs.Commit.{Committed, NoGrant as NotCommitted, Wrong, Sizes, commit_row, by_commit, commits}
use Rattle.server_rules.specs.Get.{Early, BadMode, Invalid, Unable, Waits, On, Late, NoNumber, Lacks, Conflict, Gives, early, late, must_fence, by_late, give_or_refuse, after_fence, fence_first, on_grants, by_early, gets}
use Rattle.server_rules.specs.Going.{Going, noting_if}
use Rattle.server_rules.specs.Numbers.{among}
use Rattle.server_rules.specs.Jobs.{fence_begins}
use Rattle.server_rules.specs.Requests.{serves}
use Rattle.server_rules.specs.Return.{Returned, NoGrant, Clean, Taken, TooMany, Fencing, return_row, by_return, returns_on, reports_from, takes_loss}
use Rattle.server_rules.specs.Served.{Served}
use Rattle.server_rules.proofs.HandlerLaws.{fence_leaves_none}
use Rattle.world_history.specs.ServerNames.{File, Component, Grant, Effects, Drive, RequestArgs, Get, Commit, Return, Revoking, Reported}
use Rattle.file_simulation.specs.ServerEvents.{begins_fence}
use Rattle.relation_law.proofs.KeptOpens.{none_shows}
use Rattle.headline_law.specs.Ending.{AreFresh}
use Rattle.headline_law.proofs.LossApartServing.{none_so, asks_next, fenced_so, so_served}

-- ---- lists of grants

pub fresh_none : (next : ℕ) (gs : List Grant) → gs ≡ [] → AreFresh next gs
fresh_none next = none_so (λ g. next ≤ g.number)

module _ (next : ℕ) where
  fenced_fresh : (go : Going) (format : ℕ) (x : Grant) → x.number ≡ min next GREATEST_GRANT →
      AreFresh next (after_fence (fence_begins Revoking format go) next x
      (fence_begins Revoking format go).file.job).going.file.kept.grants
  fenced_fresh = fenced_so next (λ g. next ≤ g.number) (λ x low. low)

  pub fresh_served : (go : Going) (format now client : ℕ) (args : RequestArgs) → AreFresh next go.file.kept.grants →
      AreFresh next (serves go next format now client args).going.file.kept.grants
  fresh_served = so_served next (λ g. next ≤ g.number) (λ x low. low)

  -- ---- where a fence begins

  -- In one step a fence begins, and in the other, with other drives of the placer, all grants are new.
  pub record Begun (f : File) (x y : Served) : Type 0 where
    pub fresh : begins_fence f x.going.file ≡ true → AreFresh next y.going.file.kept.grants

  -- what keeps phase and tag begins none
  quiet : (f : File) (x y : Served) → x.going.file.kept.phase ≡ f.kept.phase → x.going.file.kept.tag ≡ f.kept.tag →
      Begun f x y
  quiet f x y phase tag =
      record { fresh = λ begins. absurd (true≢false (sym begins ∙ none_shows f x.going.file phase tag)) }

  both : (f : File) (b : Bool) (x y u v : Served) → Begun f x u → Begun f y v →
      Begun f (if b then x else y) (if b then u else v)
  both f true x y u v p q = p
  both f false x y u v p q = q

  late_keeps : (go : Going) (x : Grant) (l : Late) →
      ((by_late go x l).going.file.kept.phase ≡ go.file.kept.phase) × ((by_late go x l).going.file.kept.tag ≡ go.file.kept.tag)
  late_keeps go x NoNumber = (refl, refl)
  late_keeps go x (Lacks k) = (refl, refl)
  late_keeps go x (Conflict holder) = (refl, refl)
  late_keeps go x Gives = (refl, refl)

  module _ (f : File) (m : Effects) (ds : List Drive) (chosen placed : List ℕ) where
    -- the file with the drives that the placer names in the one step, and in the other
    abbrev go : Going
    go = record { file = f; effects = m; drives = ds; chosen = chosen }

    abbrev to : Going
    to = record { file = f; effects = m; drives = ds; chosen = placed }

    given_begun : (x : Grant) (y : Served) → Begun f (give_or_refuse go next x) y
    unfolding give_or_refuse
    given_begun x y =
        let k = late_keeps go x (late f.kept next x) in
        quiet f (by_late go x (late f.kept next x)) y k.0 k.1

    first_begun : (format : ℕ) (x : Grant) → x.number ≡ min next GREATEST_GRANT →
        Begun f (fence_first go next format x) (fence_first to next format x)
    unfolding fence_first
    first_begun format x is =
        both f (f.kept.tag == GREATEST_TAG) _ _ _ _ (quiet f _ _ refl refl) (record { fresh = λ b. fenced_fresh to format x is })

    early_begun : (format now : ℕ) (x : Grant) (e : Early) → x.number ≡ min next GREATEST_GRANT →
        Begun f (by_early go next format now x e) (by_early to next format now x e)
    unfolding on_grants
    early_begun format now x BadMode is = quiet f _ _ refl refl
    early_begun format now x Invalid is = quiet f _ _ refl refl
    early_begun format now x Unable is = quiet f _ _ refl refl
    early_begun format now x (Waits k) is = quiet f _ _ refl refl
    early_begun format now x On is =
        both f (must_fence now f.kept.grants x) _ _ _ _ (first_begun format x is)
        (given_begun x (give_or_refuse to next x))

    commit_begun : (c : Committed) (y : Served) → Begun f (by_commit go c) y
    commit_begun NotCommitted y = quiet f _ y refl refl
    commit_begun Wrong y = quiet f _ y refl refl
    commit_begun (Sizes size) y = quiet f _ y refl refl

    reports_keep : (x : Going) (ks : List ℕ) (cs : List Component) (k : ℕ) →
        ((reports_from x ks cs k).file.kept.phase ≡ x.file.kept.phase)
        × ((reports_from x ks cs k).file.kept.tag ≡ x.file.kept.tag)
    unfolding reports_from
    reports_keep x ks [] k = (refl, refl)
    reports_keep x ks (at ∷ cs) k = reports_keep (noting_if (among k ks) x (Reported k)) ks cs (k + 1)

    loss_keeps : (ks : List ℕ) →
        ((takes_loss go ks).file.kept.phase ≡ f.kept.phase) × ((takes_loss go ks).file.kept.tag ≡ f.kept.tag)
    unfolding takes_loss
    loss_keeps ks = reports_keep _ ks f.kept.components 0

    return_begun : (format client : ℕ) (r : Returned) → Begun f (by_return go format client r) (by_return to format client r)
    return_begun format client NoGrant = quiet f _ _ refl refl
    return_begun format client Clean = quiet f _ _ refl refl
    return_begun format client (Taken ks) = quiet f _ _ (loss_keeps ks).0 (loss_keeps ks).1
    return_begun format client TooMany = quiet f _ _ refl refl
    return_begun format client Fencing =
        record {
          fresh =
              λ b. fresh_none next (fence_begins Revoking format to).file.kept.grants (fence_leaves_none Revoking format to);
        }

    pub served_begun : (format now client : ℕ) (args : RequestArgs) →
        Begun f (serves go next format now client args) (serves to next format now client args)
    unfolding gets commits returns_on
    served_begun format now client (Get iomode offset count) =
        early_begun format now _ (early f iomode offset count) (asks_next next f.kept client now offset count _)
    served_begun format now client (Commit last) = commit_begun (commit_row f.kept client last) _
    served_begun format now client (Return report) = return_begun format client (return_row f.kept client report)
