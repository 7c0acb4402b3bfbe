-- The units of a stripe whose positions are out: as many as its group's positions that are out, and rising.
use Rattle.std.proofs.Common.{◌≡◌, ℕ, zero, suc, ◌+◌, ◌-◌, ◌*◌, ◌<◌, ◌≤◌, true, false, List, [], ◌∷◌, length, refl, sym, ap, ◌∙◌, arith, inl, inr, eq-eqb, ne_eqb, mod-eq_of_lt}
use Rattle.std.specs.Prelude.{◌%◌}
use Rattle.std.specs.List.{Contains}
use Rattle.std.proofs.lemmas.Bool.{cases_Bool, cases_eq}
use Rattle.std.proofs.lemmas.Nat.{mod-mul-add, mod_below}
use Rattle.data_map.specs.declared.check.RawMap.{RawMap}
use Rattle.data_map.specs.Check.{IsChecked}
use Rattle.data_map.specs.Striping.{group_width, group_of, position_of, turned}
use Rattle.parity_code.specs.declared.code.Code.{Code}
use Rattle.parity_code.specs.Codeword.{count_of}
use Rattle.stripe_plan.specs.Lost.{among, is_out, out_from, positions_out}
use Rattle.stripe_plan.specs.Words.{lost_from}
use Rattle.parity_code.proofs.BackLaws.{AreLost}

-- ---- by units and by places

run : (m : RawMap) (out : List ℕ) (s c p n : ℕ) → ((j : ℕ) → j < n → position_of m s (c + j) ≡ p + j) →
    length (lost_from m out s c n) ≡ length (out_from m out p n)
unfolding lost_from out_from
run m out s c p zero e = refl
run m out s c p (suc n) e =
    let here : position_of m s c ≡ p = let z : c + 0 ≡ c = omega arith in let y : p + 0 ≡ p = omega arith in
    rw (z, y) at (e 0 (omega arith)) in
    let rest = run m out s (c + 1) (p + 1) n (λ j lt. let z : c + 1 + j ≡ c + (j + 1) = omega arith in
    let y : p + 1 + j ≡ p + (j + 1) = omega arith in rw (z, y) (e (j + 1) (omega (arith, lt)))) in
    rw here (elim (cases_Bool (is_out m out p)) [ inl t ↦ rw t (omega (arith, rest)) | inr f ↦ rw f rest ])

pub lost_split : (m : RawMap) (out : List ℕ) (s c a b : ℕ) →
    length (lost_from m out s c (a + b)) ≡ length (lost_from m out s c a) + length (lost_from m out s (c + a) b)
unfolding lost_from
lost_split m out s c zero b = let z : zero + b ≡ b = omega arith in let y : c + 0 ≡ c = omega arith in rw (z, y) (omega arith)
lost_split m out s c (suc a) b =
    let z : suc a + b ≡ suc (a + b) = omega arith in
    let y : c + suc a ≡ c + 1 + a = omega arith in
    let rest = lost_split m out s (c + 1) a b in
    rw (z, y) (elim (cases_Bool (is_out m out (position_of m s c))) [ inl t ↦ rw t (omega (arith, rest)) | inr f ↦ rw f rest ])

out_split : (m : RawMap) (out : List ℕ) (p a b : ℕ) →
    length (out_from m out p (a + b)) ≡ length (out_from m out p a) + length (out_from m out (p + a) b)
unfolding out_from
out_split m out p zero b = let z : zero + b ≡ b = omega arith in let y : p + 0 ≡ p = omega arith in rw (z, y) (omega arith)
out_split m out p (suc a) b =
    let z : suc a + b ≡ suc (a + b) = omega arith in
    let y : p + suc a ≡ p + 1 + a = omega arith in
    let rest = out_split m out (p + 1) a b in
    rw (z, y) (elim (cases_Bool (is_out m out p)) [ inl t ↦ rw t (omega (arith, rest)) | inr f ↦ rw f rest ])

-- RAID 5 turns the units of a stripe by as many places as its number says
turned_low : (m : RawMap) (s c : ℕ) → m.algorithm ≡ 3 → c < s % group_width m → s % group_width m < group_width m →
    turned m s c ≡ c + (group_width m - s % group_width m)
turned_low m s c e lt wide =
    rw (eq-eqb m.algorithm 3 e) (let x : c + group_width m - s % group_width m ≡ c + (group_width m - s % group_width m) =
    omega arith in rw x (mod-eq_of_lt (omega (arith, lt, wide))))

turned_high : (m : RawMap) (s c : ℕ) → m.algorithm ≡ 3 → s % group_width m ≤ c → c < group_width m →
    turned m s c ≡ c - s % group_width m
turned_high m s c e le lt =
    rw (eq-eqb m.algorithm 3 e) (let x : c + group_width m - s % group_width m ≡ 1 * group_width m + (c - s % group_width m) =
    omega (arith, le) in rw x (mod-mul-add 1 (group_width m) (c - s % group_width m) (omega (arith, lt))))

pub counted : (m : RawMap) (out : List ℕ) (s : ℕ) → IsChecked m →
    length (lost_from m out s 0 (group_width m)) ≡ length (positions_out m out (group_of m s))
unfolding positions_out
counted m out s ch = elim (cases_eq m.algorithm 3) [
  | inr plain ↦ run m out s 0 (group_of m s * group_width m) (group_width m) (λ j lt. let z : 0 + j ≡ j = omega arith in
      rw (z, ne_eqb m.algorithm 3 plain) (omega arith))
  | inl turns ↦
      let t : ℕ = s % group_width m in
      let wide : s % group_width m < group_width m = mod_below s (group_width m) (omega (arith, ch.some_data)) in
      let up : group_width m ≡ t + (group_width m - t) = omega (arith, wide) in
      let down : group_width m ≡ group_width m - t + t = omega (arith, wide) in
      let z : 0 + t ≡ t = omega arith in
      let first = run m out s 0 (group_of m s * group_width m + (group_width m - t)) t
      (λ j lt. let y : 0 + j ≡ j = omega arith in rw y (omega (arith, turned_low m s j turns lt wide))) in
      let second = run m out s t (group_of m s * group_width m) (group_width m - t)
      (λ j lt. omega (arith, turned_high m s (t + j) turns (omega arith) (omega (arith, lt, wide)))) in
      let beyond : length (lost_from m out s (0 + t) (group_width m - t)) ≡ length
      (out_from m out (group_of m s * group_width m) (group_width m - t)) = rw z second in
      let sum : length (lost_from m out s 0 t) + length (lost_from m out s (0 + t) (group_width m - t)) ≡ length
      (out_from m out (group_of m s * group_width m) (group_width m - t + t)) =
      omega (arith, first, beyond, out_split m out (group_of m s * group_width m) (group_width m - t) t) in
      ap (λ (n : ℕ). length (lost_from m out s 0 n)) up ∙ lost_split m out s 0 t (group_width m - t) ∙ sum
      ∙ ap (λ (n : ℕ). length (out_from m out (group_of m s * group_width m) n)) (sym down)
]

-- ---- rising

abbrev pub RisesFrom : (low end : ℕ) → List ℕ → Type 0
RisesFrom low end [] = Unit {0}
RisesFrom low end (x ∷ xs) = (low ≤ x) × (x < end) × RisesFrom (x + 1) end xs

rises_lower : (a b end : ℕ) (xs : List ℕ) → a ≤ b → RisesFrom b end xs → RisesFrom a end xs
rises_lower a b end [] le r = tt
rises_lower a b end (x ∷ xs) le r = (omega (arith, le, r.0), r.1, r.2)

pub lost_rises : (m : RawMap) (out : List ℕ) (s c n : ℕ) → RisesFrom c (c + n) (lost_from m out s c n)
unfolding lost_from
lost_rises m out s c zero = tt
lost_rises m out s c (suc n) =
    let y : c + suc n ≡ c + 1 + n = omega arith in
    let rest = lost_rises m out s (c + 1) n in
    elim (cases_Bool (is_out m out (position_of m s c))) [
      | inl t ↦ rw (t, y) (omega arith, omega arith, rest)
      | inr f ↦ rw (f, y) (rises_lower c (c + 1) (c + 1 + n) _ (omega arith) rest)
    ]

pub are_lost : (code : Code) (units : ℕ) (lost : List ℕ) → RisesFrom 0 (units + count_of code) lost →
    length lost ≤ count_of code → count_of code ≤ 2 → AreLost code units lost
are_lost code units [] r few most = tt
are_lost code units (x ∷ []) r few most = (omega (arith, few), r.1)
are_lost code units (x ∷ y ∷ []) r few most = (omega (arith, few, most), omega (arith, r.2.0), omega (arith, r.2.1, few, most))
are_lost code units (x ∷ y ∷ z ∷ zs) r few most = absurd (omega (arith, few, most))

-- ---- which units are lost

not_among : (k low end : ℕ) (xs : List ℕ) → RisesFrom low end xs → k < low → among k xs ≡ false
not_among k low end [] r lt = refl
not_among k low end (x ∷ xs) r lt =
    rw (ne_eqb x k (λ e. absurd (omega (arith, e, r.0, lt)))) (not_among k (x + 1) end xs r.2 (omega (arith, r.0, lt)))

pub among_lost : (m : RawMap) (out : List ℕ) (s c n k : ℕ) → c ≤ k → k < c + n →
    among k (lost_from m out s c n) ≡ is_out m out (position_of m s k)
unfolding lost_from
among_lost m out s c zero k le lt = absurd (omega (arith, le, lt))
among_lost m out s c (suc n) k le lt = elim (cases_eq c k) [
  | inl same ↦ elim (cases_Bool (is_out m out (position_of m s c))) [
    | inl t ↦ rw t (rw (eq-eqb c k same) (sym t ∙ ap (λ (z : ℕ). is_out m out (position_of m s z)) same))
    | inr f ↦ rw f
        (not_among k (c + 1) _ _ (lost_rises m out s (c + 1) n) (omega (arith, same)) ∙ sym f
        ∙ ap (λ (z : ℕ). is_out m out (position_of m s z)) same)
  ]
  | inr other ↦
      let rest = among_lost m out s (c + 1) n k (omega (arith, le, other)) (omega (arith, lt)) in
      elim (cases_Bool (is_out m out (position_of m s c))) [
        | inl t ↦ rw t (rw (ne_eqb c k other) rest)
        | inr f ↦ rw f rest
      ]
]

-- a unit whose position is out is among them
pub contained : (k : ℕ) (xs : List ℕ) → among k xs ≡ true → Contains xs k
contained k [] e = absurd (cc e)
contained k (x ∷ xs) e = elim (cases_eq x k) [
  | inl same ↦ (0, omega arith, same)
  | inr other ↦ let c = contained k xs (rw (ne_eqb x k other) at e) in
      (c.0 + 1, omega (arith, c.1), let z : c.0 + 1 ≡ suc c.0 = omega arith in rw z c.2)
]
