-- What a LAYOUTGET is told of a grant: it is the one that was asked, on the file as it is then.
use Rattle.std.proofs.Common.{◌≡◌, ◌==◌, ℕ, ◌++◌, ◌∷◌, [], Bool, true, false, Option, Some, None, nat_lt, find, refl, sym, ◌∙◌, if◌then◌else◌}
use Rattle.layout_ops.specs.declared.statuses.TheConstants.{LAYOUTIOMODE4_RW, NFS4_OK}
use Rattle.server_rules.specs.declared.limits.TheConstants.{GREATEST_TAG, GREATEST_GRANT}
use Rattle.world_history.specs.ServerNames.{Kept, Grant, Job, Revoking}
use Rattle.server_rules.specs.Grants.{conflicts, grant_of, asked}
use Rattle.server_rules.specs.Jobs.{fence_begins}
use Rattle.server_rules.specs.Going.{Going}
use Rattle.server_rules.specs.Served.{Served}
use Rattle.server_rules.specs.Get.{Early, BadMode, Invalid, Unable, Waits, On, Late, NoNumber, Lacks, Conflict, Gives, high_after, lacked, by_lacked, by_late, late, give_or_refuse, after_fence, fence_first, must_fence, on_grants, by_early, early, gets}
use Rattle.server_rules.proofs.HandlerLaws.{no_fence}
use Rattle.exchange_law.proofs.Fences.{IsOf, of_itself, fence_of, none_after}

-- The grant is told on the file as it is then: of the same number, map and size, without a conflict, and without one of
-- the client.
pub record IsTold (f : Kept) (next : ℕ) (g : Grant) (v : Served) : Type 0 where
  pub at : Kept
  pub of : IsOf f at
  pub low : nat_lt GREATEST_GRANT next ≡ false
  pub lacks : lacked at g ≡ None
  pub none : find (conflicts g) at.grants ≡ None
  pub own : grant_of at.grants g.client ≡ None
  pub file : v.going.file.kept ≡ record at { grants = at.grants ++ (g ∷ []); high = high_after at.high g }
  pub told : v.told ≡ record { status = NFS4_OK; detail = 0; grant = Some g }

-- where one is told, it is this one
abbrev pub TellsIt : Kept → (next : ℕ) → Grant → Served → Type 0
TellsIt f next g v = (x : Grant) → v.told.grant ≡ Some x → (x ≡ g) × IsTold f next g v

tells_none : (f : Kept) (next : ℕ) (g : Grant) (v : Served) → v.told.grant ≡ None → TellsIt f next g v
tells_none f next g v none x e = absurd (cc (sym none ∙ e))

either_tells : (f : Kept) (next : ℕ) (g : Grant) (b : Bool) (v u : Served) → (b ≡ true → TellsIt f next g v)
    → (b ≡ false → TellsIt f next g u) → TellsIt f next g (if b then v else u)
either_tells f next g true v u p q = p refl
either_tells f next g false v u p q = q refl

gives_where : (b : Bool) (l : Option ℕ) (o : Option Grant) → (if b then NoNumber else by_lacked l o) ≡ Gives
    → (b ≡ false) × (l ≡ None) × (o ≡ None)
gives_where true l o e = absurd (cc e)
gives_where false (Some k) o e = absurd (cc e)
gives_where false None (Some d) e = absurd (cc e)
gives_where false None None e = (refl, refl, refl)

module _ (f : Kept) (next : ℕ) (g : Grant) where
  late_tells : (go : Going) (l : Late) → IsOf f go.file.kept → grant_of go.file.kept.grants g.client ≡ None
      → late go.file.kept next g ≡ l → TellsIt f next g (by_late go g l)
  unfolding late
  late_tells go NoNumber of own e = tells_none f next g _ refl
  late_tells go (Lacks k) of own e = tells_none f next g _ refl
  late_tells go (Conflict holder) of own e = tells_none f next g _ refl
  late_tells go Gives of own e = λ x is.
      let w =
      gives_where (nat_lt GREATEST_GRANT next) (lacked go.file.kept g) (find (conflicts g) go.file.kept.grants) e in
      let same : g ≡ x = cc is in (
        sym same,
        record {
          at = go.file.kept;
          of = of;
          low = w.0;
          lacks = w.1;
          none = w.2;
          own = own;
          file = refl;
          told = refl;
        },
      )

  give_tells : (go : Going) → IsOf f go.file.kept → grant_of go.file.kept.grants g.client ≡ None
      → TellsIt f next g (give_or_refuse go next g)
  unfolding give_or_refuse
  give_tells go of own = late_tells go (late go.file.kept next g) of own refl

  after_tells : (go : Going) (j : Option Job) → IsOf f go.file.kept → grant_of go.file.kept.grants g.client ≡ None
      → TellsIt f next g (after_fence go next g j)
  after_tells go None of own = give_tells go of own
  after_tells go (Some j) of own = tells_none f next g _ refl

  first_tells : (go : Going) (format : ℕ) → IsOf f go.file.kept → TellsIt f next g (fence_first go next format g)
  unfolding fence_first
  first_tells go format of =
      let fenced : Going = fence_begins Revoking format go in
      either_tells f next g (go.file.kept.tag == GREATEST_TAG) _ _ (λ e. tells_none f next g _ refl)
      (λ e. after_tells fenced fenced.file.job (fence_of f Revoking format go of)
      (none_after Revoking format go g.client))

  grants_tell : (go : Going) (format now : ℕ) → IsOf f go.file.kept → TellsIt f next g (on_grants go next format now g)
  unfolding on_grants
  grants_tell go format now of =
      either_tells f next g (must_fence now go.file.kept.grants g) _ _ (λ e. first_tells go format of)
      (λ e. give_tells go of (no_fence now go.file.kept.grants g e))

  early_tells : (go : Going) (format now : ℕ) (e : Early) → IsOf f go.file.kept
      → TellsIt f next g (by_early go next format now g e)
  early_tells go format now BadMode of = tells_none f next g _ refl
  early_tells go format now Invalid of = tells_none f next g _ refl
  early_tells go format now Unable of = tells_none f next g _ refl
  early_tells go format now (Waits k) of = tells_none f next g _ refl
  early_tells go format now On of = grants_tell go format now of

-- a grant that a LAYOUTGET is told is the one that was asked
pub gets_tells : (go : Going) (next format now client iomode offset count : ℕ)
    → TellsIt go.file.kept next (asked go.file.kept next client now offset count (iomode == LAYOUTIOMODE4_RW))
    (gets go next format now client iomode offset count)
unfolding gets
gets_tells go next format now client iomode offset count =
    early_tells go.file.kept next _ go format now (early go.file iomode offset count) (of_itself go.file.kept)
