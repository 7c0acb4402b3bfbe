-- What a checked map's shape has: positions, groups and data units.
use Rattle.std.proofs.Common.{◌≡◌, ℕ, ◌+◌, ◌*◌, ◌<◌, ◌≤◌, refl, sym, ap, ◌∙◌, arith, inl, inr, ◌/◌}
use Rattle.std.proofs.lemmas.Bool.{cases_eq, eq-eqb, ne_eqb}
use Rattle.std.proofs.lemmas.Nat.{div-add-mod', mul-le, div_below}
use Rattle.std.proofs.Math.Nat.{div-le_self, mul-le-mul_right, one-le-mul, add-mul}
use Rattle.data_map.specs.declared.check.RawMap.{RawMap}
use Rattle.data_map.specs.Check.{IsChecked}
use Rattle.data_map.specs.Striping.{replicas, positions, group_width, groups, parities, data_units, stripe_length}

pub whole_positions : (m : RawMap) → IsChecked m → positions m * replicas m ≡ m.comps
whole_positions m c = omega (arith, div-add-mod' m.comps (replicas m), c.whole_positions)

-- all replicas of a position are components
pub replicas_inside : (m : RawMap) (p : ℕ) → IsChecked m → p < positions m → p * replicas m + replicas m ≤ m.comps
replicas_inside m p c lt =
    let next : (p + 1) * replicas m ≡ p * replicas m + replicas m = omega arith in
    omega (arith, next, mul-le-mul_right (replicas m) lt, whole_positions m c)

pub some_positions : (m : RawMap) → IsChecked m → 0 < positions m
some_positions m c = elim (cases_eq (positions m) 0) [
  | inl none ↦ absurd (omega (arith, sym (whole_positions m c) ∙ ap (λ p. p * replicas m) none, c.some_components))
  | inr some ↦ omega (arith, some)
]

pub few_positions : (m : RawMap) → IsChecked m → positions m ≤ 1024
few_positions m c = omega (arith, div-le_self m.comps (replicas m), c.few_components)

pub some_width : (m : RawMap) → IsChecked m → 0 < group_width m
some_width m c = omega (arith, c.some_data)

pub whole_groups : (m : RawMap) → IsChecked m → groups m * group_width m ≡ positions m
whole_groups m c = omega (arith, div-add-mod' (positions m) (group_width m), c.whole_groups)

pub some_groups : (m : RawMap) → IsChecked m → 0 < groups m
some_groups m c = elim (cases_eq (groups m) 0) [
  | inl none ↦ absurd (omega (arith, sym (whole_groups m c) ∙ ap (λ n. n * group_width m) none, some_positions m c))
  | inr some ↦ omega (arith, some)
]

pub some_data : (m : RawMap) → IsChecked m → 0 < data_units m
some_data m c = omega (arith, c.some_data)

pub some_stripe : (m : RawMap) → IsChecked m → 0 < stripe_length m
some_stripe m c = one-le-mul (some_data m c) c.some_unit

-- the data units of all groups are no more than the positions
pub few_data : (m : RawMap) → IsChecked m → groups m * data_units m ≤ 1024
few_data m c =
    omega (
      arith,
      mul-le (groups m) (data_units m) (groups m) (group_width m) (omega arith) (omega arith),
      whole_groups m c,
      few_positions m c,
    )

-- without groups all is one
pub one_group : (m : RawMap) → IsChecked m → m.width ≡ 0 → groups m ≡ 1
one_group m c none =
    let all : group_width m ≡ positions m = rw (eq-eqb m.width 0 none) refl in
    let whole : groups m * positions m ≡ positions m = ap (λ w. groups m * w) (sym all) ∙ whole_groups m c in
    elim (cases_eq (groups m) 1) [
      | inl one ↦ one
      | inr other ↦
          let two : 2 ≤ groups m = omega (arith, other, some_groups m c) in
          absurd (omega (arith, mul-le-mul_right (positions m) two, whole, some_positions m c))
    ]

pub few_parities : (m : RawMap) → parities m ≤ 2
few_parities m = elim (cases_eq m.algorithm 1) [
  | inl plain ↦ rw (eq-eqb m.algorithm 1 plain) (omega arith)
  | inr other ↦ elim (cases_eq m.algorithm 4) [
    | inl two ↦ rw (ne_eqb m.algorithm 1 other, eq-eqb m.algorithm 4 two) (omega arith)
    | inr one ↦ rw (ne_eqb m.algorithm 1 other, ne_eqb m.algorithm 4 one) (omega arith)
  ]
]

pub group_ends : (m : RawMap) (p : ℕ) → IsChecked m → p < positions m →
    p / group_width m * group_width m + group_width m ≤ positions m
group_ends m p c l =
    let more : p / group_width m + 1 ≤ groups m =
    omega (arith, div_below p (group_width m) (groups m) (omega (arith, c.some_data)) (rw (whole_groups m c) l)) in
    omega (arith, mul-le-mul_right (group_width m) more, add-mul (p / group_width m) 1 (group_width m), whole_groups m c)
