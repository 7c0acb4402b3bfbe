-- Lists of numbers, of components and of files.
use Rattle.std.proofs.Common.{◌≡◌, ℕ, zero, suc, ◌+◌, ◌<◌, ◌==◌, ◌||◌, ◌++◌, ◌∷◌, [], List, false, Option, Some, None, slice_get, refl, sym, ap, ◌∙◌, arith, inl, inr, eq-eqb, ne_eqb}
use Rattle.std.proofs.lemmas.Bool.{cases_Bool}
use Rattle.std.proofs.lemmas.Bool.Decides.{nat_tests}
use Rattle.server_rules.specs.Numbers.{among}
use Rattle.server_rules.specs.Files.{file_at, put_file}
use Rattle.server_rules.specs.Standing.{lose_from}
use Rattle.world_history.specs.ServerNames.{Component, File}
use Rattle.world_calm.specs.Files.{component_with, missing}

-- ---- numbers

pub among_end : (n d : ℕ) (ds : List ℕ) → among n (ds ++ d ∷ []) ≡ ((n == d) || among n ds)
unfolding among
among_end n d [] = refl
among_end n d (e ∷ ds) = elim (cases_Bool (n == e)) [
  | inl t ↦ rw t (elim (cases_Bool (n == d)) [ inl x ↦ rw x refl | inr z ↦ rw z refl ])
  | inr f ↦ rw f (among_end n d ds)
]

-- ---- components

none_lost : (k j : ℕ) (cs : List Component) → k < j → lose_from (k ∷ []) cs j ≡ cs
unfolding lose_from among
none_lost k j [] l = refl
none_lost k j (at ∷ cs) l =
    rw (ne_eqb j k (λ e. absurd (omega (arith, e, l))))
    (ap (λ (x : List Component). at ∷ x) (none_lost k (j + 1) cs (omega (arith, l))))

beside : (at : Component) (cs : List Component) (i : ℕ) (becomes : Component → Component) (o : Option Component)
    → component_with (at ∷ cs) (suc i) becomes o ≡ at ∷ component_with cs i becomes o
beside at cs i becomes None = refl
beside at cs i becomes (Some x) = refl

lost_at : (cs : List Component) (i j k : ℕ) → k ≡ j + i
    → lose_from (k ∷ []) cs j ≡ component_with cs i missing (slice_get cs i)
unfolding lose_from among
lost_at [] i j k e = refl
lost_at (at ∷ cs) zero j k e =
    rw (eq-eqb j k (omega (arith, e)))
    (ap (λ (x : List Component). missing at ∷ x) (none_lost k (j + 1) cs (omega (arith, e))))
lost_at (at ∷ cs) (suc i) j k e =
    rw (ne_eqb j k (λ x. absurd (omega (arith, e, x))))
    (ap (λ (x : List Component). at ∷ x) (lost_at cs i (j + 1) k (omega (arith, e)))
    ∙ sym (beside at cs i missing (slice_get cs i)))

pub lost_one : (cs : List Component) (k : ℕ) → lose_from (k ∷ []) cs 0 ≡ component_with cs k missing (slice_get cs k)
lost_one cs k = lost_at cs k 0 k (omega arith)

-- ---- files

pub put_other : (fs : List File) (m n : ℕ) (f : File) → f.kept.number ≡ m → (m == n) ≡ false
    → file_at (put_file fs m f) n ≡ file_at fs n
unfolding file_at put_file
put_other [] m n f k e = refl
put_other (h ∷ hs) m n f k e = elim (cases_Bool (h.kept.number == m)) [
  | inl t ↦ grind (arith, nat_tests, t, e, k)
  | inr z ↦ grind (arith, nat_tests, z, put_other hs m n f k e)
]
