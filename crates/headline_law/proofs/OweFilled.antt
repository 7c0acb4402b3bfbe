-- The row of a component that was heard.
-- Towards `OweFollows` and `DoneFollows` (`specs/Parts.antt`).
use Rattle.std.proofs.Common.{◌≡◌, ◌++◌, ℕ, zero, suc, ◌-◌, ◌<◌, List, [], ◌∷◌, length, replicate, take, refl, sym, ap, ◌∙◌, inl, inr, arith}
use Rattle.std.specs.Prelude.{get_or}
use Rattle.std.proofs.lemmas.Bool.{cases_eq, eq-eqb, ne_eqb}
use Rattle.std.proofs.lemmas.List.{get_or-replicate}
use Rattle.server_rules.specs.Columns.{filled, row_from}
use Rattle.server_rules.specs.Laws.{In}
use Rattle.history_law.specs.Names.{Heard}

filled_with : (bytes : List ℕ) (count n i : ℕ) → n ≡ count - length bytes → i < count →
    get_or (take count bytes ++ replicate n 0) i 0 ≡ get_or bytes i 0
filled_with [] zero n i is low = absurd (omega (arith, low))
filled_with [] (suc count) n i is low = get_or-replicate n i 0 0 (omega (arith, is, low))
filled_with (b ∷ bytes) zero n i is low = absurd (omega (arith, low))
filled_with (b ∷ bytes) (suc count) n zero is low = refl
filled_with (b ∷ bytes) (suc count) n (suc i) is low = filled_with bytes count n i (omega (arith, is)) (omega (arith, low))

-- the bytes of a row: those that the reply carries, and zeros
pub filled_at : (bytes : List ℕ) (count i : ℕ) → i < count → get_or (filled bytes count) i 0 ≡ get_or bytes i 0
filled_at bytes count i low = filled_with bytes count (count - length bytes) i refl low

-- the row of a component that was heard is that of one of its replies
pub row_found : (heard : List Heard) (n count : ℕ) (x : Heard) → In x heard → x.component ≡ n →
    (y : Heard) × In y heard × (y.component ≡ n) × (row_from heard n count ≡ filled y.payload count)
unfolding row_from
row_found [] n count x i here = absurd i
row_found (h ∷ heard) n count x i here = elim (cases_eq h.component n) [
  | inl same ↦ (h, inl refl, same, rw (eq-eqb h.component n same) refl)
  | inr other ↦ elim i [
    | inl first ↦ absurd (other (ap (λ (y : Heard). y.component) (sym first) ∙ here))
    | inr later ↦
        let r = row_found heard n count x later here in (r.0, inr r.1, r.2, rw (ne_eqb h.component n other) r.3)
  ]
]
