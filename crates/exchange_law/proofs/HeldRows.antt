-- A stripe of a group has a row of its own there.
use Rattle.std.proofs.Common.{◌≡◌, ◌==◌, ◌<◌, ◌≤◌, ℕ, ◌+◌, ◌-◌, ◌*◌, ◌/◌, ◌%◌, min, Bool, true, false, refl, ap, ◌∙◌, arith, inl, inr, if◌then◌else◌}
use Rattle.std.proofs.lemmas.Bool.{cases_lt, lt-ltb, eqb-false}
use Rattle.std.proofs.lemmas.Nat.{div-add-mod', div-mul-add, mod-mul-add}
use Rattle.std.proofs.Math.Nat.{add-mul, mod-lt, mul-le-mul_right, mul_comm}
use Rattle.data_map.specs.declared.check.RawMap.{RawMap}
use Rattle.data_map.specs.Check.{IsChecked}
use Rattle.data_map.specs.Striping.{groups, group_of}
use Rattle.data_map.proofs.Numbers.{round_whole}
use Rattle.data_map.proofs.Shape.{some_groups}
use Rattle.server_rules.specs.Maps.{rows_below, stands_in}
use Rattle.history_law.proofs.Ranges.{rows_mono}

-- rows of block b, of n blocks of d stripes each
abbrev rows : (d n b s : ℕ) → ℕ
rows d n b s = (s / (d * n)) * d + min (s % (d * n) - b * d) d

-- the next stripe's, by the rest of this one
next_inside : (p r s : ℕ) → s % p ≡ r → r + 1 < p → ((s + 1) / p ≡ s / p) × ((s + 1) % p ≡ r + 1)
next_inside p r s is less =
    let whole : s + 1 ≡ (s / p) * p + (r + 1) = omega (arith, div-add-mod' s p, is) in (
      ap (λ (x : ℕ). x / p) whole ∙ div-mul-add (s / p) p (r + 1) less,
      ap (λ (x : ℕ). x % p) whole ∙ mod-mul-add (s / p) p (r + 1) less,
    )

next_turn : (p r s : ℕ) → s % p ≡ r → r + 1 ≡ p → 0 < p → ((s + 1) / p ≡ s / p + 1) × ((s + 1) % p ≡ 0)
next_turn p r s is last some =
    let turn : (s / p + 1) * p ≡ (s / p) * p + p = add-mul (s / p) 1 p ∙ omega arith in
    let whole : s + 1 ≡ (s / p + 1) * p + 0 = omega (arith, div-add-mod' s p, is, last, turn) in (
      ap (λ (x : ℕ). x / p) whole ∙ div-mul-add (s / p + 1) p 0 some,
      ap (λ (x : ℕ). x % p) whole ∙ mod-mul-add (s / p + 1) p 0 some,
    )

-- a stripe of the block has a row that the next stripe is behind
row_inside : (d n b s : ℕ) → 0 < d → b < n → (s / d) % n ≡ b → rows d n b s < rows d n b (s + 1)
row_inside d n b s some fewer is =
    let p : ℕ = d * n in
    let j : ℕ = s % d in
    let small : j < d = mod-lt s some in
    let turns : (s / p) * p + (s / d % n) * d + j ≡ s = round_whole d n s in
    let at : (s / d % n) * d ≡ b * d = ap (λ (x : ℕ). x * d) is in
    let rest : s % p ≡ b * d + j = omega (arith, turns, at, div-add-mod' s p) in
    let more : b + 1 ≤ n = omega (arith, fewer) in
    let wide : b * d + d ≤ p = omega (arith, add-mul b 1 d, mul-le-mul_right d more, mul_comm d n) in
    let here : s % p - b * d ≡ j = omega (arith, rest) in
    elim (cases_lt (b * d + j + 1) p) [
      | inl less ↦
          let next = next_inside p (b * d + j) s rest less in
          let same : ((s + 1) / p) * d ≡ (s / p) * d = ap (λ (x : ℕ). x * d) next.0 in
          omega (arith, same, next.1, rest, small)
      | inr full ↦
          let last : b * d + j + 1 ≡ p = omega (arith, full, wide, small) in
          let next = next_turn p (b * d + j) s rest last (omega (arith, wide, some)) in
          let same : ((s + 1) / p) * d ≡ (s / p) * d + d =
          ap (λ (x : ℕ). x * d) next.0 ∙ add-mul (s / p) 1 d ∙ omega arith in
          omega (arith, same, next.1, rest, small)
    ]

next_by : (b : Bool) (d n s : ℕ) → (b ≡ false → 0 < d) → 0 < n
    → (if b then s else rows d n (if b then 0 else (s / d) % n) s)
    < (if b then s + 1 else rows d n (if b then 0 else (s / d) % n) (s + 1))
next_by true d n s some more = omega arith
next_by false d n s some more = row_inside d n ((s / d) % n) s (some refl) (mod-lt (s / d) more) refl

row_next : (m : RawMap) (s : ℕ) → IsChecked m → rows_below m (group_of m s) s < rows_below m (group_of m s) (s + 1)
unfolding rows_below
row_next m s ch =
    next_by (m.width == 0) m.depth (groups m) s (λ grouped. ch.some_depth (eqb-false m.width 0 grouped))
    (some_groups m ch)

-- so it stands there in each range of stripes that holds it
pub stands_there : (m : RawMap) (s first end : ℕ) → IsChecked m → first ≤ s → s < end
    → stands_in m (group_of m s) first end ≡ true
stands_there m s first end ch from to =
    let up : s + 1 ≤ end = omega (arith, to) in
    lt-ltb (rows_below m (group_of m s) first) (rows_below m (group_of m s) end)
    (omega (arith, rows_mono m (group_of m s) first s from, row_next m s ch, rows_mono m (group_of m s) (s + 1) end up))
