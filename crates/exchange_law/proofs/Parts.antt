-- The components of a file, and what jobs send to them, as they change.
use Rattle.std.specs.List.{AllByRecursion}
use Rattle.std.proofs.Common.{◌≡◌, ◌&&◌, ◌==◌, ℕ, zero, suc, ◌+◌, ◌≤◌, ◌<◌, ◌++◌, Bool, true, false, not, List, [], ◌∷◌, Option, Some, None, length, filter, slice_set, inl, inr, refl, sym, ap, subst, arith, if◌then◌else◌}
use Rattle.scenario_text.specs.declared.names.TheConstants.{DRIVES}
use Rattle.world_history.specs.ServerNames.{Kept, Component, Awaited, Piece, Heard, Target, Work, Creates, Fences, Fetches, Stores, Targets, Gathers, Fills, Lengths, Checks, Job}
use Rattle.server_rules.specs.declared.limits.TheConstants.{GREATEST_TAG, MAX_FILE_COMPONENTS}
use Rattle.server_rules.specs.Laws.{In}
use Rattle.server_rules.specs.Numbers.{among}
use Rattle.server_rules.specs.Standing.{lose_on, lose_from}
use Rattle.server_rules.specs.Columns.{row_from, unit_with, wanted}
use Rattle.server_rules.specs.Commands.{Ask, Which, is_meant, sent_to, to_each}
use Rattle.server_rules.specs.Pieces.{stores_from, is_off, to_store}
use Rattle.exchange_law.specs.Files.{ComponentFits}

-- ---- lists

pub each_more : {A : Type 0} (P : A → Type 0) (xs ys : List A) → AllByRecursion P xs → AllByRecursion P ys
    → AllByRecursion P (xs ++ ys)
each_more P [] ys k l = l
each_more P (x ∷ xs) ys k l = (k.0, each_more P xs ys k.1 l)

pub each_filtered : {A : Type 0} (P : A → Type 0) (p : A → Bool) (xs : List A) → AllByRecursion P xs
    → AllByRecursion P (filter p xs)
each_filtered P p [] k = tt
each_filtered P p (x ∷ xs) k = either (p x) (each_filtered P p xs k.1)
  where
    either : (b : Bool) → AllByRecursion P (filter p xs)
        → AllByRecursion P (if b then x ∷ filter p xs else filter p xs)
    either true l = (k.0, l)
    either false l = l

pub each_as : {A : Type 0} (P Q : A → Type 0) (xs : List A) → ((x : A) → P x → Q x) → AllByRecursion P xs
    → AllByRecursion Q xs
each_as P Q [] f k = tt
each_as P Q (x ∷ xs) f k = (f x k.0, each_as P Q xs f k.1)

pub each_in : {A : Type 0} (P : A → Type 0) (xs : List A) (x : A) → AllByRecursion P xs → In x xs → P x
each_in P [] x k i = absurd i
each_in P (y ∷ ys) x k (inl e) = subst P (sym e) k.0
each_in P (y ∷ ys) x k (inr i) = each_in P ys x k.1 i

-- ---- components

abbrev pub PartsFit : ℕ → List Component → Type 0
PartsFit n cs = AllByRecursion (ComponentFits n) cs

pub wider_parts : (m n : ℕ) (cs : List Component) → m ≤ n → PartsFit m cs → PartsFit n cs
wider_parts m n cs l k =
    each_as (ComponentFits m) (ComponentFits n) cs
    (λ at f. record { drive = f.drive; object = omega (arith, l, f.object) }) k

gone : (n : ℕ) (b : Bool) (at : Component) → ComponentFits n at
    → ComponentFits n (if b then record at { missing = true } else at)
gone n true at f = record { drive = f.drive; object = f.object }
gone n false at f = f

pub fit_lost_on : (n drive : ℕ) (cs : List Component) → PartsFit n cs → PartsFit n (lose_on drive cs)
unfolding lose_on
fit_lost_on n drive [] k = tt
fit_lost_on n drive (at ∷ cs) k = (gone n (at.drive == drive) at k.0, fit_lost_on n drive cs k.1)

pub fit_lost : (n : ℕ) (ks : List ℕ) (cs : List Component) (j : ℕ) → PartsFit n cs → PartsFit n (lose_from ks cs j)
unfolding lose_from
fit_lost n ks [] j k = tt
fit_lost n ks (at ∷ cs) j k = (gone n (among j ks) at k.0, fit_lost n ks cs (j + 1) k.1)

pub fit_set : (n : ℕ) (cs : List Component) (j : ℕ) (at : Component) → PartsFit n cs → ComponentFits n at
    → PartsFit n (slice_set cs j at)
fit_set n [] j at k f = k
fit_set n (c ∷ cs) zero at k f = (f, k.1)
fit_set n (c ∷ cs) (suc j) at k f = (k.0, fit_set n cs j at k.1 f)

pub length_set : (cs : List Component) (j : ℕ) (at : Component) → length (slice_set cs j at) ≡ length cs
length_set [] j at = refl
length_set (c ∷ cs) zero at = refl
length_set (c ∷ cs) (suc j) at = ap suc (length_set cs j at)

-- ---- commands of jobs

-- a line can name the drive, and no file has more components
pub record IsNear (a : Awaited) : Type 0 where
  pub drive : a.drive < DRIVES
  pub component : a.component < MAX_FILE_COMPONENTS

abbrev pub AllNear : List Awaited → Type 0
AllNear ws = AllByRecursion IsNear ws

pub one_near : (b : Bool) (a : Awaited) (ws bs : List Awaited) → IsNear a → AllNear ws → AllNear bs
    → AllNear (if b then a ∷ ws else bs)
one_near true a ws bs n k l = (n, k)
one_near false a ws bs n k l = l

pub either_near : (b : Bool) (ws bs : List Awaited) → AllNear ws → AllNear bs → AllNear (if b then ws else bs)
either_near true ws bs k l = k
either_near false ws bs k l = l

pub each_near : (n : ℕ) (f : Kept) (which : Which) (ask : Ask) (cs : List Component) (k nonce : ℕ)
    → k + length cs ≤ MAX_FILE_COMPONENTS → PartsFit n cs → AllNear (to_each f which ask cs k nonce)
unfolding to_each
each_near n f which ask [] k nonce l fit = tt
each_near n f which ask (at ∷ cs) k nonce l fit =
    let later : (k + 1) + length cs ≤ MAX_FILE_COMPONENTS = omega (arith, l) in
    one_near (not at.missing && is_meant f which k) (sent_to f ask k at.drive at.object nonce) _ _
    (record { drive = fit.0.drive; component = omega (arith, l) })
    (each_near n f which ask cs (k + 1) (nonce + 1) later fit.1) (each_near n f which ask cs (k + 1) nonce later fit.1)

pub stores_near : (n : ℕ) (f : Kept) (p : Piece) (rows : List (List ℕ)) (heard : List Heard) (cs : List Component)
    (k nonce : ℕ) → k + length cs ≤ MAX_FILE_COMPONENTS → PartsFit n cs
    → AllNear (stores_from f p rows heard cs k nonce)
unfolding stores_from
stores_near n f p rows heard [] k nonce l fit = tt
stores_near n f p rows heard (at ∷ cs) k nonce l fit =
    let later : (k + 1) + length cs ≤ MAX_FILE_COMPONENTS = omega (arith, l) in
    one_near (is_off f p (row_from heard k p.count) (wanted f.map rows (unit_with f.map p.stripe k) p.count) at k)
    (to_store f p (row_from heard k p.count) (wanted f.map rows (unit_with f.map p.stripe k) p.count) k at.drive
    at.object nonce) _ _
    (record { drive = fit.0.drive; component = omega (arith, l) })
    (stores_near n f p rows heard cs (k + 1) (nonce + 1) later fit.1)
    (stores_near n f p rows heard cs (k + 1) nonce later fit.1)

-- ---- what a job is about

-- where a component is made anew
pub record TargetFits (n : ℕ) (t : Target) : Type 0 where
  pub drive : t.drive < DRIVES
  pub object : t.object < n
  pub component : t.component < MAX_FILE_COMPONENTS

-- a fence has a further tag to raise
abbrev pub WorkFits : (objects tag : ℕ) → Work → Type 0
WorkFits n tag Fences = tag < GREATEST_TAG
WorkFits n tag (Targets t) = TargetFits n t
WorkFits n tag (Gathers t todo) = TargetFits n t
WorkFits n tag (Fills t todo) = TargetFits n t
WorkFits n tag w = Unit {0}

abbrev pub JobFits : (objects tag : ℕ) → Option Job → Type 0
JobFits n tag None = Unit {0}
JobFits n tag (Some j) = WorkFits n tag j.work × AllNear j.awaited

wider_target : (m n : ℕ) (t : Target) → m ≤ n → TargetFits m t → TargetFits n t
wider_target m n t l k = record { drive = k.drive; object = omega (arith, l, k.object); component = k.component }

wider_work : (m n tag : ℕ) (w : Work) → m ≤ n → WorkFits m tag w → WorkFits n tag w
wider_work m n tag Creates l k = tt
wider_work m n tag Fences l k = k
wider_work m n tag (Fetches todo short) l k = tt
wider_work m n tag (Stores todo short broken) l k = tt
wider_work m n tag (Targets t) l k = wider_target m n t l k
wider_work m n tag (Gathers t todo) l k = wider_target m n t l k
wider_work m n tag (Fills t todo) l k = wider_target m n t l k
wider_work m n tag Lengths l k = tt
wider_work m n tag (Checks todo t) l k = tt

pub wider_job : (m n tag : ℕ) (o : Option Job) → m ≤ n → JobFits m tag o → JobFits n tag o
wider_job m n tag None l k = tt
wider_job m n tag (Some j) l k = (wider_work m n tag j.work l k.0, k.1)
