-- Lists of which the first members were taken out.
use Rattle.std.proofs.Common.{◌≡◌, ◌≤◌, ◌<◌, ℕ, zero, suc, ◌+◌, List, [], ◌∷◌, length, refl, ap, ◌∙◌, arith}
use Rattle.std.specs.Prelude.{slice_get, slice_set}
use Rattle.std.proofs.lemmas.List.{length-set}

-- all from place i on are as they were
abbrev pub AreLeft : {X : Type 0} → (i : ℕ) → (left xs : List X) → Type 0
AreLeft i left xs = (length left ≡ length xs) × ((j : ℕ) → i ≤ j → slice_get left j ≡ slice_get xs j)

pub all_left : {X : Type 0} (xs : List X) → AreLeft 0 xs xs
all_left xs = (refl, λ j le. refl)

get_behind : {X : Type 0} (xs : List X) (i j : ℕ) (x : X) → i < j → slice_get (slice_set xs i x) j ≡ slice_get xs j
get_behind [] i j x lt = refl
get_behind (y ∷ ys) zero zero x lt = absurd (omega (arith, lt))
get_behind (y ∷ ys) zero (suc j) x lt = refl
get_behind (y ∷ ys) (suc i) zero x lt = absurd (omega (arith, lt))
get_behind (y ∷ ys) (suc i) (suc j) x lt = get_behind ys i j x (omega (arith, lt))

pub one_taken : {X : Type 0} (i : ℕ) (left now xs : List X) (x : X) → AreLeft i left xs → now ≡ slice_set left i x →
    AreLeft (i + 1) now xs
one_taken i left now xs x l e = (
  ap length e ∙ length-set left i x ∙ l.0,
  λ j le. ap (λ ys. slice_get ys j) e ∙ get_behind left i j x (omega (arith, le)) ∙ l.1 j (omega (arith, le)),
)
