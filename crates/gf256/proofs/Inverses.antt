-- The inverse of an element is the only one, so that a search finds it.
use Rattle.std.proofs.Common.{◌≡◌, ℕ, zero, suc, ◌+◌, ◌<◌, ◌≤◌, sym, ap, ◌∙◌, arith, inl, inr, eq-eqb, ne_eqb}
use Rattle.std.proofs.lemmas.Bool.{cases_eq}
use Rattle.gf256.specs.Field.{product, two_to, inverse_from, inverse_of}
use Rattle.gf256.proofs.Product.{product_one}
use Rattle.gf256.proofs.Laws.{two_to_lt, inverse_power, inverse_undoes}

found : (a b n i : ℕ) → b ≤ i → i < b + n → product a i ≡ 1 → (product a (inverse_from a b n) ≡ 1) × (inverse_from a b n < b + n)
unfolding inverse_from
found a b zero i low lt e = absurd (omega (arith, low, lt))
found a b (suc n) i low lt e = elim (cases_eq (product a b) 1) [
  | inl is ↦ rw (eq-eqb (product a b) 1 is) (is, omega arith)
  | inr other ↦ rw (ne_eqb (product a b) 1 other) (elim (cases_eq i b) [
    | inl same ↦ absurd (other (ap (product a) (sym same) ∙ e))
    | inr apart ↦ let r = found a (b + 1) n i (omega (arith, low, apart)) (omega (arith, lt)) e in (r.0, omega (arith, r.1))
  ])
]

-- each element but 0 has an inverse
pub inverse_is : (a : ℕ) → 0 < a → a < 256 → (product a (inverse_of a) ≡ 1) × (inverse_of a < 256)
inverse_is a pos lt = by_power _ (inverse_power a pos lt)
  where
    by_power : (n : ℕ) → product a (two_to n) ≡ 1 → (product a (inverse_of a) ≡ 1) × (inverse_of a < 256)
    by_power n e = found a 0 256 (two_to n) (omega arith) (omega (arith, two_to_lt n)) e

-- and no other
pub inverse_only : (a b : ℕ) → a < 256 → b < 256 → product a b ≡ 1 → b ≡ inverse_of a
inverse_only a b a_lt b_lt e =
    let is = found a 0 256 b (omega arith) (omega (arith, b_lt)) e in
    sym (product_one b) ∙ ap (product b) (sym is.0) ∙ inverse_undoes a b (inverse_of a) a_lt b_lt (omega (arith, is.1)) e
