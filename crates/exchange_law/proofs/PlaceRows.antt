-- The rows that some stripes have in a group hold the row of each of them that stands there.
use Rattle.std.proofs.Common.{◌≡◌, ◌≤◌, ◌<◌, ℕ, ◌+◌, ◌-◌, ◌*◌, ◌/◌, ◌%◌, min, refl, sym, ap, ◌∙◌, inl, inr, arith}
use Rattle.std.proofs.lemmas.Bool.{cases_lt, cases_eq, eq-eqb, ne_eqb, lt-ltb}
use Rattle.std.proofs.lemmas.Nat.{div-add-mod', mod-mul-add, mod_below}
use Rattle.std.proofs.Math.Nat.{mul-le-mul_right, one-le-mul}
use Rattle.data_map.specs.declared.check.RawMap.{RawMap}
use Rattle.data_map.specs.Check.{IsChecked}
use Rattle.data_map.specs.Striping.{positions, group_of, row_of}
use Rattle.data_map.proofs.Covering.{div_mono}
use Rattle.data_map.proofs.Numbers.{round_whole}
use Rattle.data_map.proofs.Shape.{some_groups}
use Rattle.server_rules.specs.Maps.{rows_below, rows_in}

-- ---- turns of depth stripes, of which c are the group's place

-- a turn of p stripes in which s stands r behind the group's first
abbrev rows_at : (p d c s : ℕ) → ℕ
rows_at p d c s = (s / p) * d + min (s % p - c) d

-- the rows below a stripe are at most its row
rows_up : (p d c s t r : ℕ) → 0 < p → s % p ≡ c + r → t ≤ s → rows_at p d c t ≤ (s / p) * d + r
rows_up p d c s t r some at l = elim (cases_lt (t / p) (s / p)) [
  | inl less ↦ further ((t / p) * d) (min (t % p - c) d) d ((s / p) * d) r (least (t % p - c) d)
      (next (t / p) (s / p) d less)
  | inr from ↦
      let same : t / p ≡ s / p = closed (t / p) (s / p) (div_mono t s p some l) from in
      within ((t / p) * d) ((s / p) * d) (t % p) c r d (ap (λ (n : ℕ). n * d) same)
      (rest p (t / p) t s (c + r) refl (sym same) at l)
]
  where
    least : (x d : ℕ) → min x d ≤ d
    least x d = omega arith

    next : (a b d : ℕ) → a < b → a * d + d ≤ b * d
    next a b d l = let more : a + 1 ≤ b = omega (arith, l) in
        let one : (a + 1) * d ≡ a * d + d = omega arith in omega (arith, one, mul-le-mul_right d more)

    further : (a x d b r : ℕ) → x ≤ d → a + d ≤ b → a + x ≤ b + r
    further a x d b r l m = omega (arith, l, m)

    closed : (a b : ℕ) → a ≤ b → b ≤ a → a ≡ b
    closed a b l m = omega (arith, l, m)

    rest : (p q t s n : ℕ) → t / p ≡ q → s / p ≡ q → s % p ≡ n → t ≤ s → t % p ≤ n
    rest p q t s n is too at l = omega (
      arith,
      ap (λ (x : ℕ). x * p) is,
      ap (λ (x : ℕ). x * p) too,
      div-add-mod' t p,
      div-add-mod' s p,
      at,
      l,
    )

    within : (a b x c r d : ℕ) → a ≡ b → x ≤ c + r → a + min (x - c) d ≤ b + r
    within a b x c r d e l = omega (arith, e, l)

-- and a later one has more
rows_past : (p d c s t r : ℕ) → 0 < p → s % p ≡ c + r → r < d → s < t → (s / p) * d + r < rows_at p d c t
rows_past p d c s t r some at low l = elim (cases_lt (s / p) (t / p)) [
  | inl less ↦ further ((s / p) * d) r d ((t / p) * d) (min (t % p - c) d) low (next (s / p) (t / p) d less)
  | inr from ↦
      let same : s / p ≡ t / p = closed (s / p) (t / p) (div_mono s t p some (before s t l)) from in
      within ((s / p) * d) ((t / p) * d) (t % p) c r d (ap (λ (n : ℕ). n * d) same) low
      (rest p (t / p) t s (c + r) refl same at l)
]
  where
    before : (s t : ℕ) → s < t → s ≤ t
    before s t l = omega (arith, l)

    next : (a b d : ℕ) → a < b → a * d + d ≤ b * d
    next a b d l = let more : a + 1 ≤ b = omega (arith, l) in
        let one : (a + 1) * d ≡ a * d + d = omega arith in omega (arith, one, mul-le-mul_right d more)

    further : (a r d b x : ℕ) → r < d → a + d ≤ b → a + r < b + x
    further a r d b x l m = omega (arith, l, m)

    closed : (a b : ℕ) → a ≤ b → b ≤ a → a ≡ b
    closed a b l m = omega (arith, l, m)

    rest : (p q t s n : ℕ) → t / p ≡ q → s / p ≡ q → s % p ≡ n → s < t → n < t % p
    rest p q t s n is too at l = omega (
      arith,
      ap (λ (x : ℕ). x * p) is,
      ap (λ (x : ℕ). x * p) too,
      div-add-mod' t p,
      div-add-mod' s p,
      at,
      l,
    )

    within : (a b x c r d : ℕ) → a ≡ b → r < d → c + r < x → a + r < b + min (x - c) d
    within a b x c r d e low l = omega (arith, e, low, l)

-- a stripe's place in its turn is its group's first, and its own place there
place_in_turn : (d g s : ℕ) → 0 < d → 0 < g → s % (d * g) ≡ ((s / d) % g) * d + s % d
place_in_turn d g s deep some =
    let r : ℕ = ((s / d) % g) * d + s % d in
    let whole : (s / (d * g)) * (d * g) + r ≡ s = grouped ((s / (d * g)) * (d * g)) (((s / d) % g) * d) (s % d) s
    (round_whole d g s) in
    let low : r < d * g = inside ((s / d) % g) (s % d) d g (mod_below (s / d) g some) (mod_below s d deep) in
    ap (λ (n : ℕ). n % (d * g)) (sym whole) ∙ mod-mul-add (s / (d * g)) (d * g) r low
  where
    grouped : (a b c s : ℕ) → a + b + c ≡ s → a + (b + c) ≡ s
    grouped a b c s e = omega (arith, e)

    inside : (a b d g : ℕ) → a < g → b < d → a * d + b < d * g
    inside a b d g l m = let more : a + 1 ≤ g = omega (arith, l) in
        let one : (a + 1) * d ≡ a * d + d = omega arith in
        let turn : g * d ≡ d * g = omega arith in
        omega (arith, one, turn, m, mul-le-mul_right d more)

-- ---- of a map

pub rows_to : (m : RawMap) (s t : ℕ) → IsChecked m → t ≤ s → rows_below m (group_of m s) t ≤ row_of m s
unfolding rows_below
rows_to m s t ch l = elim (cases_eq m.width 0) [
  | inl none ↦ rw (eq-eqb m.width 0 none) l
  | inr some ↦
      let n : ℕ = positions m / m.width in
      let deep = ch.some_depth some in
      let many : 0 < n = rw (ne_eqb m.width 0 some) at (some_groups m ch) in
      rw (ne_eqb m.width 0 some)
      (rows_up (m.depth * n) m.depth ((s / m.depth % n) * m.depth) s t (s % m.depth) (one-le-mul deep many)
      (place_in_turn m.depth n s deep many) l)
]

pub rows_from : (m : RawMap) (s t : ℕ) → IsChecked m → s < t → row_of m s < rows_below m (group_of m s) t
unfolding rows_below
rows_from m s t ch l = elim (cases_eq m.width 0) [
  | inl none ↦ rw (eq-eqb m.width 0 none) l
  | inr some ↦
      let n : ℕ = positions m / m.width in
      let deep = ch.some_depth some in
      let many : 0 < n = rw (ne_eqb m.width 0 some) at (some_groups m ch) in
      rw (ne_eqb m.width 0 some)
      (rows_past (m.depth * n) m.depth ((s / m.depth % n) * m.depth) s t (s % m.depth) (one-le-mul deep many)
      (place_in_turn m.depth n s deep many) (mod_below s m.depth deep) l)
]

-- the stripe's row is among those of the stripes with it
pub row_among : (m : RawMap) (s first end : ℕ) → IsChecked m → first ≤ s → s < end
    → ((rows_in m (group_of m s) first end).first ≤ row_of m s)
    × (row_of m s < (rows_in m (group_of m s) first end).end)
unfolding rows_in
row_among m s first end ch low high =
    let from = rows_to m s first ch low in
    let to = rows_from m s end ch high in
    let some : rows_below m (group_of m s) first < rows_below m (group_of m s) end = omega (arith, from, to) in
    rw (lt-ltb (rows_below m (group_of m s) first) (rows_below m (group_of m s) end) some) (from, to)
