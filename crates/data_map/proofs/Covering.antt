-- The parts of a range hold its bytes in file order, and its stripes are those of its ends.
use Rattle.std.proofs.Common.{◌≡◌, ℕ, zero, suc, ◌+◌, ◌-◌, ◌*◌, ◌/◌, ◌%◌, ◌<◌, ◌≤◌, min, max, ◌∷◌, ◌++◌, map, refl, sym, ap, ◌∙◌, arith, inl, inr}
use Rattle.std.specs.List.{range_with_len, flat_map}
use Rattle.std.proofs.lemmas.Bool.{cases_eq, eq-eqb, ne_eqb}
use Rattle.std.proofs.lemmas.List.{append-nil}
use Rattle.std.proofs.lemmas.Nat.{le-div, mod-mul-add}
use Rattle.std.proofs.Math.Nat.{add-mul, div-mul-le_self, lt-div-mul-add, mul-le-mul_right}
use Rattle.osd_lists.proofs.Slices.{split_range}
use Rattle.data_map.specs.declared.check.RawMap.{RawMap}
use Rattle.data_map.specs.Check.{IsChecked}
use Rattle.data_map.specs.Striping.{stripe_length, stripe_of, place_of, left_in_unit}
use Rattle.data_map.specs.Ranges.{HoldRange, part_in, extents_of, bytes_of_part, bytes_of_range}
use Rattle.data_map.proofs.Striping.{ahead}

-- ---- lists of numbers

-- numbers that a function takes one after another
same_run : {X : Type 0} (f g : ℕ → X) (a b n : ℕ) → ((j : ℕ) → j < n → f (a + j) ≡ g (b + j)) →
    map f (range_with_len a n) ≡ map g (range_with_len b n)
same_run f g a b zero h = refl
same_run f g a b (suc n) h =
    let at : (c : ℕ) → c + 0 ≡ c = λ c. omega arith in
    let on : (c j : ℕ) → c + 1 + j ≡ c + (j + 1) = λ c j. omega arith in
    let first : f a ≡ g b = ap f (sym (at a)) ∙ h 0 (omega arith) ∙ ap g (at b) in
    let rest : map f (range_with_len (a + 1) n) ≡ map g (range_with_len (b + 1) n) =
    same_run f g (a + 1) (b + 1) n (λ j below. ap f (on a j) ∙ h (j + 1) (omega (arith, below)) ∙ ap g (sym (on b j))) in
    ap (λ x. x ∷ map f (range_with_len (a + 1) n)) first ∙ ap (λ xs. g b ∷ xs) rest

-- ---- parts

-- the bytes of a part in one unit are those of its range
part_bytes : (m : RawMap) (l n : ℕ) → IsChecked m → n ≤ left_in_unit m l →
    map (λ o. ((place_of m l).position, o)) (range_with_len (place_of m l).offset n) ≡ bytes_of_range m l n
part_bytes m l n c short =
    same_run (λ o. ((place_of m l).position, o)) (λ x. ((place_of m x).position, (place_of m x).offset)) (place_of m l).offset l n
    (λ j below. let there = ahead m l j c (omega (arith, below, short)) in
    ap (λ o. ((place_of m l).position, o)) (sym there.1) ∙ ap (λ p. (p, (place_of m (l + j)).offset)) (sym there.0))

-- a part ends with its unit or with the range
part_short : (m : RawMap) (off end u : ℕ) → IsChecked m → off < (u + 1) * m.unit →
    min end ((u + 1) * m.unit) - max off (u * m.unit) ≤ left_in_unit m (max off (u * m.unit))
part_short m off end u c touched =
    let l = max off (u * m.unit) in
    let next : (u + 1) * m.unit ≡ u * m.unit + m.unit = add-mul u 1 m.unit ∙ omega arith in
    let inside : l - u * m.unit < m.unit = omega (arith, next, touched, c.some_unit) in
    let whole : l ≡ u * m.unit + (l - u * m.unit) = omega arith in
    let column : l % m.unit ≡ l - u * m.unit = ap (λ x. x % m.unit) whole ∙ mod-mul-add u m.unit (l - u * m.unit) inside in
    omega (arith, column, next, touched)

-- the parts in the units from u on
parts_bytes : (m : RawMap) (off end u n : ℕ) → IsChecked m → off < (u + 1) * m.unit → (u + n) * m.unit < end →
    flat_map bytes_of_part (map (part_in m off end) (range_with_len u (n + 1))) ≡ bytes_of_range m (max off (u * m.unit))
    (min end ((u + n + 1) * m.unit) - max off (u * m.unit))
parts_bytes m off end u zero c touched more =
    let here : u + 0 + 1 ≡ u + 1 = omega arith in
    append-nil (bytes_of_part (part_in m off end u))
    ∙ part_bytes m (max off (u * m.unit)) (min end ((u + 1) * m.unit) - max off (u * m.unit)) c
    (part_short m off end u c touched)
    ∙ ap (λ k. bytes_of_range m (max off (u * m.unit)) (min end (k * m.unit) - max off (u * m.unit))) (sym here)
parts_bytes m off end u (suc n) c touched more =
    let from = max off (u * m.unit) in
    let next = (u + 1) * m.unit in
    let last = min end ((u + 1 + n + 1) * m.unit) in
    let two : (u + 1 + 1) * m.unit ≡ next + m.unit = add-mul (u + 1) 1 m.unit ∙ omega arith in
    let first : next ≡ u * m.unit + m.unit = add-mul u 1 m.unit ∙ omega arith in
    let shift : u + suc n ≡ u + 1 + n = omega arith in
    let step : (u + 1 + n) * m.unit < end = omega (arith, ap (λ k. k * m.unit) shift, more) in
    let more_units : u + 1 ≤ u + 1 + n = omega arith in
    let inside : next < end = omega (arith, step, mul-le-mul_right m.unit more_units) in
    let all_units : u + 1 ≤ u + 1 + n + 1 = omega arith in
    let beyond : next ≤ last = omega (arith, inside, mul-le-mul_right m.unit all_units) in
    let length_here : min end next - from ≡ next - from = omega (arith, inside) in
    let from_next : max off next ≡ next = omega (arith, touched) in
    let count : suc n + 1 ≡ suc (n + 1) = omega arith in
    let end_units : u + suc n + 1 ≡ u + 1 + n + 1 = omega arith in
    let rest = parts_bytes m off end (u + 1) n c (omega (arith, two, touched)) step in
    let split : next - from + (last - next) ≡ last - from = omega (arith, beyond, first, touched) in
    let at_next : from + (next - from) ≡ next = omega (arith, first, touched) in
    ap (λ k. flat_map bytes_of_part (map (part_in m off end) (range_with_len u k))) count
    ∙ ap (λ xs. bytes_of_part (part_in m off end u) ++ xs) rest
    ∙ ap (λ xs. xs ++ bytes_of_range m (max off next) (last - max off next))
    (part_bytes m from (min end next - from) c (part_short m off end u c touched) ∙ ap (bytes_of_range m from) length_here)
    ∙ ap (λ x. bytes_of_range m from (next - from) ++ bytes_of_range m x (last - x)) (from_next ∙ sym at_next)
    ∙ ap (λ x. bytes_of_range m from (next - from) ++ bytes_of_range m (from + (next - from)) (last - x)) at_next
    ∙ sym (split_range (λ l. ((place_of m l).position, (place_of m l).offset)) from (next - from) (last - next))
    ∙ ap (bytes_of_range m from) split
    ∙ ap (λ k. bytes_of_range m from (min end (k * m.unit) - from)) (sym end_units)

pub div_mono : (a b k : ℕ) → 0 < k → a ≤ b → a / k ≤ b / k
div_mono a b k some below = le-div (a / k) b k some (omega (arith, div-mul-le_self a k, below))

pub extents_bytes : (m : RawMap) (off len : ℕ) → IsChecked m →
    flat_map bytes_of_part (extents_of m off len) ≡ bytes_of_range m off len
extents_bytes m off len c = elim (cases_eq len 0) [
  | inl none ↦ rw (eq-eqb len 0 none, none) refl
  | inr some ↦
      let u = off / m.unit in
      let last = (off + len - 1) / m.unit in
      let order : u ≤ last = div_mono off (off + len - 1) m.unit c.some_unit (omega (arith, some)) in
      let count : last + 1 - u ≡ last - u + 1 = omega (arith, order) in
      let units : u + (last - u) ≡ last = omega (arith, order) in
      let first : (u + 1) * m.unit ≡ u * m.unit + m.unit = add-mul u 1 m.unit ∙ omega arith in
      let final : (last + 1) * m.unit ≡ last * m.unit + m.unit = add-mul last 1 m.unit ∙ omega arith in
      let touched : off < (u + 1) * m.unit = omega (arith, first, lt-div-mul-add {a = off} c.some_unit) in
      let inside : (u + (last - u)) * m.unit < off + len =
      omega (arith, ap (λ k. k * m.unit) units, div-mul-le_self (off + len - 1) m.unit, some) in
      let reach : off + len - 1 < (last + 1) * m.unit = omega (arith, final, lt-div-mul-add {a = off + len - 1} c.some_unit) in
      let start : max off (u * m.unit) ≡ off = omega (arith, div-mul-le_self off m.unit) in
      let end : min (off + len) ((u + (last - u) + 1) * m.unit) ≡ off + len =
      ap (λ k. min (off + len) ((k + 1) * m.unit)) units ∙ omega (arith, reach, some) in
      let length_all : off + len - off ≡ len = omega arith in
      rw (ne_eqb len 0 some, count) (
      parts_bytes m off (off + len) u (last - u) c touched inside
      ∙ ap (λ x. bytes_of_range m x (min (off + len) ((u + (last - u) + 1) * m.unit) - x)) start
      ∙ ap (λ x. bytes_of_range m off (x - off)) end ∙ ap (bytes_of_range m off) length_all
      )
]

-- ---- stripes

pub stripes_hold : (m : RawMap) (off len : ℕ) → 0 < stripe_length m →
    HoldRange m off len (stripe_of m off) (stripe_of m (off + len - 1) + 1)
stripes_hold m off len some l from below =
    let inside : l ≤ off + len - 1 = omega (arith, below) in
    (div_mono off l (stripe_length m) some from, omega (arith, div_mono l (off + len - 1) (stripe_length m) some inside))
