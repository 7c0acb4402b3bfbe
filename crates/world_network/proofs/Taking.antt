-- A list whose members are taken out one after another.
use Rattle.std.proofs.Common.{◌≡◌, ℕ, zero, suc, ◌+◌, ◌++◌, ◌∷◌, [], List, Some, take, drop, slice_get, slice_set, refl, sym, ap, ◌∙◌, add-one, append_assoc}

-- one member further

-- what stands behind a place says what stands there
member_of : {X : Type 0} (xs : List X) (i : ℕ) → slice_get (drop i xs) 0 ≡ slice_get xs i
member_of [] zero = refl
member_of [] (suc i) = refl
member_of (y ∷ xs) zero = refl
member_of (y ∷ xs) (suc i) = member_of xs i

pub same_member : {X : Type 0} (xs ys : List X) (i : ℕ) (x : X) → drop i xs ≡ drop i ys → slice_get xs i ≡ Some x
    → slice_get ys i ≡ Some x
same_member xs ys i x e h = sym (member_of ys i) ∙ ap (λ l. slice_get l 0) (sym e) ∙ member_of xs i ∙ h

-- a member that is taken out doesn't stand behind its place
rest_of : {X : Type 0} (xs : List X) (i : ℕ) (x : X) → drop (suc i) (slice_set xs i x) ≡ drop (suc i) xs
rest_of [] i x = refl
rest_of (y ∷ xs) zero x = refl
rest_of (y ∷ xs) (suc i) x = rest_of xs i x

further : {X : Type 0} (xs : List X) (i : ℕ) → drop (suc i) xs ≡ drop 1 (drop i xs)
further [] zero = refl
further [] (suc i) = refl
further (y ∷ xs) zero = refl
further (y ∷ xs) (suc i) = further xs i

pub same_rest : {X : Type 0} (xs ys : List X) (i : ℕ) (x : X) → drop i xs ≡ drop i ys
    → drop (suc i) (slice_set xs i x) ≡ drop (suc i) ys
same_rest xs ys i x e = rest_of xs i x ∙ further xs i ∙ ap (λ l. drop 1 l) e ∙ sym (further ys i)

-- a member that is taken out stands before those behind its place
out_of : {X : Type 0} (xs : List X) (i : ℕ) (x other : X) → slice_get xs i ≡ Some x
    → drop i xs ≡ x ∷ drop (suc i) (slice_set xs i other)
out_of [] i x other e = absurd (cc e)
out_of (y ∷ xs) zero x other e = let same : y ≡ x = cc in ap (λ z. z ∷ xs) same
out_of (y ∷ xs) (suc i) x other e = out_of xs i x other e

-- ---- the same, counted up by one

pub taken_out : {X : Type 0} (xs : List X) (i : ℕ) (x other : X) → slice_get xs i ≡ Some x
    → drop i xs ≡ x ∷ drop (i + 1) (slice_set xs i other)
taken_out xs i x other e = rw add-one (out_of xs i x other e)

pub rest_stays : {X : Type 0} (xs ys : List X) (i : ℕ) (x : X) → drop i xs ≡ drop i ys
    → drop (i + 1) (slice_set xs i x) ≡ drop (i + 1) ys
rest_stays xs ys i x e = rw add-one (same_rest xs ys i x e)

pub split_at : {X : Type 0} (xs : List X) (i : ℕ) → xs ≡ take i xs ++ drop i xs
split_at [] zero = refl
split_at [] (suc i) = refl
split_at (y ∷ xs) zero = refl
split_at (y ∷ xs) (suc i) = ap (λ l. y ∷ l) (split_at xs i)

-- lines to which a first part was appended, and then one more
pub appended_more : {X : Type 0} (before lines after part longer : List X) (x : X) → lines ≡ before ++ part
    → after ≡ lines ++ x ∷ [] → longer ≡ part ++ x ∷ [] → after ≡ before ++ longer
appended_more before lines after part longer x e f g =
    f ∙ ap (λ l. l ++ x ∷ []) e ∙ append_assoc before part (x ∷ []) ∙ ap (λ l. before ++ l) (sym g)
