-- What a request does to the grants of its file, and how a LAYOUTGET is refused.
use Rattle.std.proofs.Common.{◌≡◌, ◌⊎◌, ◌<◌, ◌≤◌, ◌==◌, ◌++◌, ◌||◌, not, ℕ, ◌+◌, Bool, true, false, List, [], ◌∷◌, Option, Some, None, inl, inr, arith, refl, sym, ap, ◌∙◌, if◌then◌else◌}
use Rattle.std.proofs.lemmas.Bool.{cases_eq, eq-eqb, ne_eqb, le-ltb}
use Rattle.data_map.specs.declared.ranges.TheConstants.{MAX_FILE_SIZE}
use Rattle.layout_ops.specs.declared.statuses.TheConstants.{LAYOUTIOMODE4_READ, LAYOUTIOMODE4_RW, NFS4ERR_NOENT, NFS4ERR_LAYOUTTRYLATER, NFS4ERR_LAYOUTUNAVAILABLE, NFS4ERR_RECALLCONFLICT}
use Rattle.server_rules.specs.declared.limits.TheConstants.{GREATEST_TAG}
use Rattle.world_history.specs.ServerNames.{File, Kept, Grant, Job, Revoking, RequestArgs, Get, Commit, Return}
use Rattle.server_rules.specs.Grants.{grant_of, asked}
use Rattle.server_rules.specs.Jobs.{fence_begins}
use Rattle.server_rules.specs.Going.{Going}
use Rattle.server_rules.specs.Served.{Served}
use Rattle.server_rules.specs.Get.{Early, BadMode, Invalid, Unable, Waits, On, by_job, Late, NoNumber, Lacks, Conflict, Gives, by_late, late, give_or_refuse, after_fence, fence_first, must_fence, on_grants, by_early, early, gets}
use Rattle.server_rules.specs.Commit.{Committed, NoGrant, Wrong, Sizes, by_commit, commits, commit_row}
use Rattle.server_rules.specs.Requests.{serves}
use Rattle.server_rules.specs.Return.{return_row, returns_on}
use Rattle.history_law.proofs.IssueTelling.{asked_client}
use Rattle.exchange_law.proofs.Grants.{Fewer, fewer_itself, fence_fewer, return_fewer}

-- ---- the grants of the file

-- it is no LAYOUTCOMMIT
abbrev pub NoCommit : RequestArgs → Type 0
NoCommit (Commit last) = ⊥
NoCommit a = Unit {0}

-- no other grant than before, but one of this client that is told, and the size stays, but for a LAYOUTCOMMIT
pub record MayGive (f : Kept) (client : ℕ) (a : RequestArgs) (v : Served) : Type 0 where
  pub number : v.going.file.kept.number ≡ f.number
  pub map : v.going.file.kept.map ≡ f.map
  pub size : NoCommit a → v.going.file.kept.size ≡ f.size
  pub grants : (c : ℕ) (g : Grant) → grant_of v.going.file.kept.grants c ≡ Some g
      → (grant_of f.grants c ≡ Some g) ⊎ ((c ≡ client) × (v.told.grant ≡ Some g))

gives_none : (f : Kept) (client : ℕ) (a : RequestArgs) (v : Served) → Fewer f v.going.file.kept → MayGive f client a v
gives_none f client a v x = record {
  number = x.number;
  map = x.map;
  size = λ none. x.size;
  grants = λ c g e. inl (x.grants c g e);
}

-- where a fence came first
fewer_first : (f k : Kept) (client : ℕ) (a : RequestArgs) (v : Served) → Fewer f k → MayGive k client a v
    → MayGive f client a v
fewer_first f k client a v x m = record {
  number = m.number ∙ x.number;
  map = m.map ∙ x.map;
  size = λ none. m.size none ∙ x.size;
  grants = λ c g e. before c g (m.grants c g e);
}
  where
    before : (c : ℕ) (g : Grant) → (grant_of k.grants c ≡ Some g) ⊎ ((c ≡ client) × (v.told.grant ≡ Some g))
        → (grant_of f.grants c ≡ Some g) ⊎ ((c ≡ client) × (v.told.grant ≡ Some g))
    before c g (inl old) = inl (x.grants c g old)
    before c g (inr new) = inr new

-- one more grant
pub found_more : (gs : List Grant) (n g : Grant) (c : ℕ) → grant_of (gs ++ (n ∷ [])) c ≡ Some g
    → (grant_of gs c ≡ Some g) ⊎ ((n.client ≡ c) × (n ≡ g))
found_more [] n g c e = elim (cases_eq n.client c) [
  | inl is ↦ inr (is, cc (rw (eq-eqb n.client c is) at e))
  | inr other ↦ absurd (cc (rw (ne_eqb n.client c other) at e))
]
found_more (x ∷ xs) n g c e = elim (cases_eq x.client c) [
  | inl is ↦ rw (eq-eqb x.client c is) (inl (rw (eq-eqb x.client c is) at e))
  | inr other ↦ rw (ne_eqb x.client c other) (found_more xs n g c (rw (ne_eqb x.client c other) at e))
]

either_may : (f : Kept) (client : ℕ) (a : RequestArgs) (b : Bool) (x y : Served) → MayGive f client a x
    → MayGive f client a y → MayGive f client a (if b then x else y)
either_may f client a true x y p q = p
either_may f client a false x y p q = q

module _ (client next : ℕ) (a : RequestArgs) (g : Grant) (its : g.client ≡ client) where
  late_may : (go : Going) (l : Late) → MayGive go.file.kept client a (by_late go g l)
  late_may go NoNumber = gives_none go.file.kept client a _ (fewer_itself go.file.kept)
  late_may go (Lacks k) = gives_none go.file.kept client a _ (fewer_itself go.file.kept)
  late_may go (Conflict holder) = gives_none go.file.kept client a _ (fewer_itself go.file.kept)
  late_may go Gives = record {
    number = refl;
    map = refl;
    size = λ none. refl;
    grants = λ c x e. told c x (found_more go.file.kept.grants g x c e);
  }
    where
      told : (c : ℕ) (x : Grant) → (grant_of go.file.kept.grants c ≡ Some x) ⊎ ((g.client ≡ c) × (g ≡ x))
          → (grant_of go.file.kept.grants c ≡ Some x) ⊎ ((c ≡ client) × (Some g ≡ Some x))
      told c x (inl old) = inl old
      told c x (inr new) = inr (sym new.0 ∙ its, ap (λ (y : Grant). Some y) new.1)

  give_may : (go : Going) → MayGive go.file.kept client a (give_or_refuse go next g)
  unfolding give_or_refuse
  give_may go = late_may go (late go.file.kept next g)

  after_may : (go : Going) (j : Option Job) → MayGive go.file.kept client a (after_fence go next g j)
  after_may go None = give_may go
  after_may go (Some j) = gives_none go.file.kept client a _ (fewer_itself go.file.kept)

  first_may : (go : Going) (format : ℕ) → MayGive go.file.kept client a (fence_first go next format g)
  unfolding fence_first
  first_may go format =
      let fenced : Going = fence_begins Revoking format go in
      either_may go.file.kept client a (go.file.kept.tag == GREATEST_TAG) _ _
      (gives_none go.file.kept client a _ (fewer_itself go.file.kept))
      (fewer_first go.file.kept fenced.file.kept client a _ (fence_fewer Revoking format go)
      (after_may fenced fenced.file.job))

  grants_may : (go : Going) (format now : ℕ) → MayGive go.file.kept client a (on_grants go next format now g)
  unfolding on_grants
  grants_may go format now =
      either_may go.file.kept client a (must_fence now go.file.kept.grants g) _ _ (first_may go format) (give_may go)

  early_may : (go : Going) (format now : ℕ) (e : Early) → MayGive go.file.kept client a (by_early go next format now g e)
  early_may go format now BadMode = gives_none go.file.kept client a _ (fewer_itself go.file.kept)
  early_may go format now Invalid = gives_none go.file.kept client a _ (fewer_itself go.file.kept)
  early_may go format now Unable = gives_none go.file.kept client a _ (fewer_itself go.file.kept)
  early_may go format now (Waits k) = gives_none go.file.kept client a _ (fewer_itself go.file.kept)
  early_may go format now On = grants_may go format now

commit_may : (go : Going) (client : ℕ) (last : Option ℕ) (c : Committed)
    → MayGive go.file.kept client (Commit last) (by_commit go c)
commit_may go client last NoGrant = gives_none go.file.kept client (Commit last) _ (fewer_itself go.file.kept)
commit_may go client last Wrong = gives_none go.file.kept client (Commit last) _ (fewer_itself go.file.kept)
commit_may go client last (Sizes size) = record {
  number = refl;
  map = refl;
  size = λ none. absurd none;
  grants = λ c g e. inl e;
}

pub serves_may : (go : Going) (next format now client : ℕ) (a : RequestArgs)
    → MayGive go.file.kept client a (serves go next format now client a)
unfolding gets commits returns_on
serves_may go next format now client (Get iomode offset count) =
    early_may client next (Get iomode offset count)
    (asked go.file.kept next client now offset count (iomode == LAYOUTIOMODE4_RW))
    (asked_client go.file.kept next client now offset count (iomode == LAYOUTIOMODE4_RW)) go format now
    (early go.file iomode offset count)
serves_may go next format now client (Commit last) =
    commit_may go client last (commit_row go.file.kept client last)
serves_may go next format now client (Return report) =
    gives_none go.file.kept client (Return report) _
    (return_fewer go format client (return_row go.file.kept client report))

-- ---- how a LAYOUTGET is refused

-- a status that a client knows
pub data IsRefusal (status : ℕ) : Type 0 where
  NoFile : status ≡ NFS4ERR_NOENT → IsRefusal status
  Later : status ≡ NFS4ERR_LAYOUTTRYLATER → IsRefusal status
  Fencing : status ≡ NFS4ERR_RECALLCONFLICT → IsRefusal status
  Unavailable : status ≡ NFS4ERR_LAYOUTUNAVAILABLE → IsRefusal status

-- a grant is told, or the request is refused so
abbrev pub IsTellable : Served → Type 0
IsTellable v = ((g : Grant) × (v.told.grant ≡ Some g)) ⊎ ((v.told.grant ≡ None) × IsRefusal v.told.status)

either_told : (b : Bool) (x y : Served) → IsTellable x → IsTellable y → IsTellable (if b then x else y)
either_told true x y p q = p
either_told false x y p q = q

late_told : (go : Going) (g : Grant) (l : Late) → IsTellable (by_late go g l)
late_told go g NoNumber = inr (refl, Unavailable refl)
late_told go g (Lacks k) = inr (refl, Unavailable refl)
late_told go g (Conflict holder) = inr (refl, Later refl)
late_told go g Gives = inl (g, refl)

give_told : (go : Going) (next : ℕ) (g : Grant) → IsTellable (give_or_refuse go next g)
unfolding give_or_refuse
give_told go next g = late_told go g (late go.file.kept next g)

after_told : (go : Going) (next : ℕ) (g : Grant) (j : Option Job) → IsTellable (after_fence go next g j)
after_told go next g None = give_told go next g
after_told go next g (Some j) = inr (refl, Fencing refl)

first_told : (go : Going) (next format : ℕ) (g : Grant) → IsTellable (fence_first go next format g)
unfolding fence_first
first_told go next format g =
    let fenced : Going = fence_begins Revoking format go in
    either_told (go.file.kept.tag == GREATEST_TAG) _ _ (inr (refl, Unavailable refl))
    (after_told fenced next g fenced.file.job)

grants_told : (go : Going) (next format now : ℕ) (g : Grant) → IsTellable (on_grants go next format now g)
unfolding on_grants
grants_told go next format now g =
    either_told (must_fence now go.file.kept.grants g) _ _ (first_told go next format g) (give_told go next g)

-- a range that is none, or a mode that is none
abbrev IsAskable : Early → Type 0
IsAskable BadMode = ⊥
IsAskable Invalid = ⊥
IsAskable e = Unit {0}

early_told : (go : Going) (next format now : ℕ) (g : Grant) (e : Early) → IsAskable e
    → IsTellable (by_early go next format now g e)
early_told go next format now g BadMode x = absurd x
early_told go next format now g Invalid x = absurd x
early_told go next format now g Unable x = inr (refl, Unavailable refl)
early_told go next format now g (Waits k) x = inr (refl, Fencing refl)
early_told go next format now g On x = grants_told go next format now g

job_askable : (j : Option Job) → IsAskable (by_job j)
job_askable None = tt
job_askable (Some j) = tt

either_askable : (b : Bool) (e d : Early) → IsAskable e → IsAskable d → IsAskable (if b then e else d)
either_askable true e d x y = x
either_askable false e d x y = y

mode_known : (w : Bool) → not (((if w then LAYOUTIOMODE4_RW else LAYOUTIOMODE4_READ) == LAYOUTIOMODE4_READ)
    || ((if w then LAYOUTIOMODE4_RW else LAYOUTIOMODE4_READ) == LAYOUTIOMODE4_RW)) ≡ false
mode_known true = refl
mode_known false = refl

is_askable : (f : File) (w : Bool) (o n : ℕ) → 0 < n → o + n ≤ MAX_FILE_SIZE
    → IsAskable (early f (if w then LAYOUTIOMODE4_RW else LAYOUTIOMODE4_READ) o n)
unfolding early
is_askable f w o n some short =
    rw (mode_known w, ne_eqb n 0 (λ e. omega (arith, e, some)), le-ltb MAX_FILE_SIZE (o + n) short)
    (either_askable f.spent _ _ tt (job_askable f.job))

-- so it is of what a call asks
pub gets_told : (go : Going) (next format now client : ℕ) (w : Bool) (o n : ℕ) → 0 < n → o + n ≤ MAX_FILE_SIZE
    → IsTellable (gets go next format now client (if w then LAYOUTIOMODE4_RW else LAYOUTIOMODE4_READ) o n)
unfolding gets
gets_told go next format now client w o n some short =
    early_told go next format now _ (early go.file (if w then LAYOUTIOMODE4_RW else LAYOUTIOMODE4_READ) o n)
    (is_askable go.file w o n some short)
