-- What a request does to the grants of its file, and to what a live one is for.
use Rattle.std.proofs.Common.{◌≡◌, ◌⊎◌, ◌==◌, ℕ, Bool, true, false, Option, Some, None, inl, inr, refl, sym, ap, ◌∙◌, if◌then◌else◌}
use Rattle.layout_ops.specs.declared.statuses.TheConstants.{LAYOUTIOMODE4_RW}
use Rattle.server_rules.specs.declared.limits.TheConstants.{GREATEST_TAG}
use Rattle.world_history.specs.ServerNames.{Kept, Grant, Job, Revoking, RequestArgs, Get, Commit, Return}
use Rattle.server_rules.specs.Grants.{grant_of, asked}
use Rattle.server_rules.specs.Jobs.{fence_begins}
use Rattle.server_rules.specs.Going.{Going}
use Rattle.server_rules.specs.Served.{Served}
use Rattle.server_rules.specs.Get.{Early, BadMode, Invalid, Unable, Waits, On, Late, NoNumber, Lacks, Conflict, Gives, by_late, late, give_or_refuse, after_fence, fence_first, must_fence, on_grants, by_early, early, gets}
use Rattle.server_rules.specs.Commit.{commits, commit_row}
use Rattle.server_rules.specs.Requests.{serves}
use Rattle.server_rules.specs.Return.{return_row, returns_on}
use Rattle.history_law.proofs.IssueTelling.{asked_client}
use Rattle.exchange_law.proofs.HeldServing.{found_more}
use Rattle.component_law.proofs.PartyKeeping.{Fewer, IsAlike, alike_then, given_alike, fewer_itself, fence_fewer, commit_fewer, return_fewer}

module _ (Off : ℕ → Type 0) where
  -- ---- the grants of the file

  -- no other grant than before, but one of this client that is told
  pub record MayGive (f : Kept) (client : ℕ) (v : Served) : Type 0 where
    pub number : v.going.file.kept.number ≡ f.number
    pub grants : (c : ℕ) (g : Grant) → grant_of v.going.file.kept.grants c ≡ Some g
        → ((grant_of f.grants c ≡ Some g) × IsAlike Off f v.going.file.kept) ⊎ ((c ≡ client) × (v.told.grant ≡ Some g))

  gives_none : (f : Kept) (client : ℕ) (v : Served) → Fewer Off f v.going.file.kept → MayGive f client v
  gives_none f client v x = record { number = x.number; grants = λ c g e. inl (x.grants c g e) }

  -- where a fence came first
  fewer_first : (f k : Kept) (client : ℕ) (v : Served) → Fewer Off f k → MayGive k client v → MayGive f client v
  fewer_first f k client v x m = record {
    number = m.number ∙ x.number;
    grants = λ c g e. before c g (m.grants c g e);
  }
    where
      before : (c : ℕ) (g : Grant)
          → ((grant_of k.grants c ≡ Some g) × IsAlike Off k v.going.file.kept) ⊎ ((c ≡ client) × (v.told.grant ≡ Some g))
          → ((grant_of f.grants c ≡ Some g) × IsAlike Off f v.going.file.kept) ⊎ ((c ≡ client) × (v.told.grant ≡ Some g))
      before c g (inl old) =
          let y = x.grants c g old.0 in inl (y.0, alike_then Off f k v.going.file.kept y.1 old.1)
      before c g (inr new) = inr new

  either_may : (f : Kept) (client : ℕ) (b : Bool) (x y : Served) → MayGive f client x → MayGive f client y
      → MayGive f client (if b then x else y)
  either_may f client true x y p q = p
  either_may f client false x y p q = q

  module _ (client next : ℕ) (g : Grant) (its : g.client ≡ client) where
    late_may : (go : Going) (l : Late) → MayGive go.file.kept client (by_late go g l)
    late_may go NoNumber = gives_none go.file.kept client _ (fewer_itself Off go.file.kept)
    late_may go (Lacks k) = gives_none go.file.kept client _ (fewer_itself Off go.file.kept)
    late_may go (Conflict holder) = gives_none go.file.kept client _ (fewer_itself Off go.file.kept)
    late_may go Gives = record {
      number = refl;
      grants = λ c x e. told c x (found_more go.file.kept.grants g x c e);
    }
      where
        told : (c : ℕ) (x : Grant) → (grant_of go.file.kept.grants c ≡ Some x) ⊎ ((g.client ≡ c) × (g ≡ x))
            → ((grant_of go.file.kept.grants c ≡ Some x)
            × IsAlike Off go.file.kept (by_late go g Gives).going.file.kept) ⊎ ((c ≡ client) × (Some g ≡ Some x))
        told c x (inl old) = inl (old, given_alike Off go.file.kept _ _)
        told c x (inr new) = inr (sym new.0 ∙ its, ap (λ (y : Grant). Some y) new.1)

    give_may : (go : Going) → MayGive go.file.kept client (give_or_refuse go next g)
    unfolding give_or_refuse
    give_may go = late_may go (late go.file.kept next g)

    after_may : (go : Going) (j : Option Job) → MayGive go.file.kept client (after_fence go next g j)
    after_may go None = give_may go
    after_may go (Some j) = gives_none go.file.kept client _ (fewer_itself Off go.file.kept)

    first_may : (go : Going) (format : ℕ) → MayGive go.file.kept client (fence_first go next format g)
    unfolding fence_first
    first_may go format =
        let fenced : Going = fence_begins Revoking format go in
        either_may go.file.kept client (go.file.kept.tag == GREATEST_TAG) _ _
        (gives_none go.file.kept client _ (fewer_itself Off go.file.kept))
        (fewer_first go.file.kept fenced.file.kept client _ (fence_fewer Off Revoking format go)
        (after_may fenced fenced.file.job))

    grants_may : (go : Going) (format now : ℕ) → MayGive go.file.kept client (on_grants go next format now g)
    unfolding on_grants
    grants_may go format now =
        either_may go.file.kept client (must_fence now go.file.kept.grants g) _ _ (first_may go format) (give_may go)

    early_may : (go : Going) (format now : ℕ) (e : Early) → MayGive go.file.kept client (by_early go next format now g e)
    early_may go format now BadMode = gives_none go.file.kept client _ (fewer_itself Off go.file.kept)
    early_may go format now Invalid = gives_none go.file.kept client _ (fewer_itself Off go.file.kept)
    early_may go format now Unable = gives_none go.file.kept client _ (fewer_itself Off go.file.kept)
    early_may go format now (Waits k) = gives_none go.file.kept client _ (fewer_itself Off go.file.kept)
    early_may go format now On = grants_may go format now

  pub serves_may : (go : Going) (next format now client : ℕ) (a : RequestArgs)
      → MayGive go.file.kept client (serves go next format now client a)
  unfolding gets commits returns_on return_row
  serves_may go next format now client (Get iomode offset count) =
      early_may client next (asked go.file.kept next client now offset count (iomode == LAYOUTIOMODE4_RW))
      (asked_client go.file.kept next client now offset count (iomode == LAYOUTIOMODE4_RW)) go format now
      (early go.file iomode offset count)
  serves_may go next format now client (Commit last) =
      gives_none go.file.kept client _ (commit_fewer Off go (commit_row go.file.kept client last))
  serves_may go next format now client (Return report) =
      gives_none go.file.kept client _ (return_fewer Off go format client report (return_row go.file.kept client report) refl)
