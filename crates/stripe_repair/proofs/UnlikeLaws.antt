-- Where rows differ.
use Rattle.std.proofs.Common.{◌≡◌, ℕ, ◌+◌, ◌<◌, ◌≤◌, ◌⊎◌, List, [], ◌∷◌, length, drop, refl, arith, inl, inr, eq-eqb, ne_eqb}
use Rattle.std.proofs.lemmas.Bool.{cases_eq}
use Rattle.std.proofs.Math.ListN.{drop_of_length-le}
use Rattle.server_rules.specs.Columns.{first_unlike, end_unlike, end_of}

-- the end is as it was, or behind the first column that differs
behind_from : (xs ys : List ℕ) (i end : ℕ) → (end_unlike xs ys i end ≡ end) ⊎ (i + first_unlike xs ys < end_unlike xs ys i end)
unfolding first_unlike end_unlike
behind_from [] ys i end = inl refl
behind_from (x ∷ xs) [] i end = inl refl
behind_from (x ∷ xs) (y ∷ ys) i end = elim (cases_eq x y) [
  | inl e ↦ rw (eq-eqb x y e) (elim (behind_from xs ys (i + 1) end) [
    | inl same ↦ inl same
    | inr more ↦ inr (omega (arith, more))
  ])
  | inr n ↦ rw (ne_eqb x y n) (elim (behind_from xs ys (i + 1) (i + 1)) [
    | inl same ↦ inr (omega (arith, same))
    | inr more ↦ inr (omega (arith, more))
  ])
]

end_from : (xs ys : List ℕ) (i end : ℕ) → end ≤ i → end_unlike xs ys i end ≤ i + length xs
unfolding end_unlike
end_from [] ys i end le = omega (arith, le)
end_from (x ∷ xs) [] i end le = omega (arith, le)
end_from (x ∷ xs) (y ∷ ys) i end le = elim (cases_eq x y) [
  | inl e ↦ rw (eq-eqb x y e) (omega (arith, end_from xs ys (i + 1) end (omega (arith, le))))
  | inr n ↦ rw (ne_eqb x y n) (omega (arith, end_from xs ys (i + 1) (i + 1) (omega arith)))
]

-- where some column differs, the first is before the end
pub first_before_end : (xs ys : List ℕ) → 0 < end_of xs ys → first_unlike xs ys < end_of xs ys
first_before_end xs ys some = elim (behind_from xs ys 0 0) [
  | inl none ↦ absurd (omega (arith, some, none))
  | inr more ↦ omega (arith, more)
]

pub end_inside : (xs ys : List ℕ) → end_of xs ys ≤ length xs
end_inside xs ys = omega (arith, end_from xs ys 0 0 (omega arith))

-- what was found when no column is left is the end
pub end_where_over : (xs ys : List ℕ) (i end : ℕ) → length xs ≤ i → end_unlike (drop i xs) (drop i ys) i end ≡ end_of xs ys →
    end ≡ end_of xs ys
unfolding end_unlike
end_where_over xs ys i end over e =
    let none : drop i xs ≡ [] = drop_of_length-le xs over in
    rw none at e
