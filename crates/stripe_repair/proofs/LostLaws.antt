-- As many units of a stripe are lost as positions of its group: its units stand at them, each at one.
use Rattle.std.proofs.Common.{◌≡◌, ℕ, zero, suc, Bool, ◌+◌, ◌-◌, ◌*◌, ◌%◌, ◌<◌, List, ◌∷◌, ◌++◌, length, refl, ap, ◌∙◌, arith, inl, inr, eq-eqb, ne_eqb}
use Rattle.std.specs.Prelude.{filter, is_none}
use Rattle.std.specs.List.{range_with_len}
use Rattle.std.proofs.lemmas.Bool.{cases_Bool, cases_eq}
use Rattle.std.proofs.lemmas.List.{length-append}
use Rattle.std.proofs.lemmas.List.Elements.{filter-append}
use Rattle.std.proofs.lemmas.Nat.{mod_below}
use Rattle.std.proofs.Math.Nat.{add-mod_right, mod-eq_of_lt}
use Rattle.data_map.specs.declared.check.RawMap.{RawMap}
use Rattle.data_map.specs.Check.{IsChecked}
use Rattle.data_map.specs.Striping.{group_width, group_of}
use Rattle.server_rules.specs.declared.files.Component.{Component}
use Rattle.server_rules.specs.Standing.{replica, lacking}
use Rattle.server_rules.specs.Decoding.{lost_units}

-- ---- counts over ranges

-- tests that agree along two ranges find as many there
moved : (f g : ℕ → Bool) (a b n : ℕ) → ((i : ℕ) → i < n → f (a + i) ≡ g (b + i)) →
    length (filter f (range_with_len a n)) ≡ length (filter g (range_with_len b n))
moved f g a b zero e = refl
moved f g a b (suc n) e =
    let za : a + 0 ≡ a = omega arith in
    let zb : b + 0 ≡ b = omega arith in
    let first : f a ≡ g b = rw (za, zb) at (e 0 (omega arith)) in
    let later : length (filter f (range_with_len (a + 1) n)) ≡ length (filter g (range_with_len (b + 1) n)) =
    moved f g (a + 1) (b + 1) n (λ i lt. step i (e (i + 1) (omega (arith, lt)))) in
    elim (cases_Bool (g b)) [
      | inl yes_there ↦ rw (first ∙ yes_there, yes_there) (ap suc later)
      | inr none_there ↦ rw (first ∙ none_there, none_there) later
    ]
  where
    step : (i : ℕ) → f (a + (i + 1)) ≡ g (b + (i + 1)) → f (a + 1 + i) ≡ g (b + 1 + i)
    step i h =
        let x : a + 1 + i ≡ a + (i + 1) = omega arith in
        let y : b + 1 + i ≡ b + (i + 1) = omega arith in
        rw (x, y) h

split : (a x y : ℕ) → range_with_len a (x + y) ≡ range_with_len a x ++ range_with_len (a + x) y
split a zero y =
    let e : zero + y ≡ y = omega arith in
    let z : a + zero ≡ a = omega arith in
    rw (e, z) refl
split a (suc x) y =
    let e : suc x + y ≡ suc (x + y) = omega arith in
    let z : a + suc x ≡ a + 1 + x = omega arith in
    rw (e, z) (ap (λ xs. a ∷ xs) (split (a + 1) x y))

count_split : (f : ℕ → Bool) (a x y : ℕ) →
    length (filter f (range_with_len a (x + y))) ≡ length (filter f (range_with_len a x)) + length
    (filter f (range_with_len (a + x) y))
count_split f a x y =
    ap (λ xs. length (filter f xs)) (split a x y) ∙ ap length (filter-append f (range_with_len a x) (range_with_len (a + x) y))
    ∙ length-append (filter f (range_with_len a x)) (filter f (range_with_len (a + x) y))

-- ---- a turn

-- a range that is turned by t
turned_count : (q : ℕ → Bool) (w t : ℕ) → t < w →
    length (filter (λ c. q ((c + w - t) % w)) (range_with_len 0 w)) ≡ length (filter q (range_with_len 0 w))
turned_count q w t lt =
    let f : ℕ → Bool = λ c. q ((c + w - t) % w) in
    let parts : t + (w - t) ≡ w = omega (arith, lt) in
    let other : (w - t) + t ≡ w = omega (arith, lt) in
    let front : length (filter f (range_with_len 0 t)) ≡ length (filter q (range_with_len (w - t) t)) =
    moved f q 0 (w - t) t (λ i l. ap q (low i l)) in
    let back : length (filter f (range_with_len t (w - t))) ≡ length (filter q (range_with_len 0 (w - t))) =
    moved f q t 0 (w - t) (λ i l. ap q (high i l)) in
    let at_t : 0 + t ≡ t = omega arith in
    let at_rest : 0 + (w - t) ≡ w - t = omega arith in
    let left = rw (parts, at_t) at (count_split f 0 t (w - t)) in
    let right = rw (other, at_rest) at (count_split q 0 (w - t) t) in
    omega (arith, left, right, front, back)
  where
    low : (i : ℕ) → i < t → (0 + i + w - t) % w ≡ w - t + i
    low i l =
        let e : 0 + i + w - t ≡ w - t + i = omega (arith, l, lt) in
        ap (λ z. z % w) e ∙ mod-eq_of_lt (omega (arith, l, lt))

    high : (i : ℕ) → i < w - t → (t + i + w - t) % w ≡ 0 + i
    high i l =
        let e : t + i + w - t ≡ i + w = omega (arith, l, lt) in
        ap (λ z. z % w) e ∙ add-mod_right i w ∙ mod-eq_of_lt (omega (arith, l)) ∙ omega arith

-- ---- units and positions

pub lost_count : (m : RawMap) (cs : List Component) (s : ℕ) → IsChecked m →
    length (lost_units m cs s) ≡ length (lacking m cs (group_of m s))
unfolding lost_units lacking
lost_count m cs s ch =
    let w = group_width m in
    let g = group_of m s * group_width m in
    let base : length (filter (λ c. is_none (replica m cs (c + g))) (range_with_len 0 w)) ≡ length
    (filter (λ p. is_none (replica m cs p)) (range_with_len g w)) =
    moved (λ c. is_none (replica m cs (c + g))) (λ p. is_none (replica m cs p)) 0 g w (λ i lt. same_place i) in
    elim (cases_eq m.algorithm 3) [
      | inl turns ↦
          rw (eq-eqb m.algorithm 3 turns)
          (turned_count (λ c. is_none (replica m cs (c + g))) w (s % w) (mod_below s w (omega (arith, ch.some_data)))) ∙ base
      | inr none ↦ rw (ne_eqb m.algorithm 3 none) base
    ]
  where
    same_place : (i : ℕ) →
        is_none (replica m cs (0 + i + group_of m s * group_width m)) ≡ is_none (replica m cs (group_of m s * group_width m + i))
    same_place i =
        let e : 0 + i + group_of m s * group_width m ≡ group_of m s * group_width m + i = omega arith in
        ap (λ p. is_none (replica m cs p)) e
