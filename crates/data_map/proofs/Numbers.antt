-- Laws of whole numbers that the map's formulas stand on.
use Rattle.std.proofs.Common.{◌≡◌, ℕ, ◌+◌, ◌-◌, ◌*◌, ◌/◌, ◌%◌, ◌<◌, ◌≤◌, sym, ap, ◌∙◌, arith, inl, inr}
use Rattle.std.proofs.lemmas.Bool.{cases_lt}
use Rattle.std.proofs.lemmas.Nat.{div-add-mod', div-mul-add, mod-mul-add}
use Rattle.std.proofs.Math.Nat.{div-div-eq-div-mul, mod-eq_of_lt, mul_assoc, mul_comm, add-mul, div-le_self, mul-le-mul_right}

-- ---- turning inside a group of g places by t

-- a number below 2 g, less g where it reaches g
wrapped_high : (g x : ℕ) → g ≤ x → x < g + g → x % g ≡ x - g
wrapped_high g x high low = ap (λ y. y % g) (omega (arith, high)) ∙ mod-mul-add 1 g (x - g) (omega (arith, high, low))

pub turned_back : (g t c : ℕ) → t < g → c < g → ((c + g - t) % g + t) % g ≡ c
turned_back g t c t_below c_below = elim (cases_lt c t) [
  | inl before ↦
      let step : (c + g - t) % g ≡ c + g - t = mod-eq_of_lt (omega (arith, before, t_below)) in
      ap (λ y. (y + t) % g) step ∙ wrapped_high g (c + g - t + t) (omega (arith, t_below)) (omega (arith, t_below, c_below))
      ∙ omega (arith, t_below)
  | inr from ↦
      let step : (c + g - t) % g ≡ c + g - t - g = wrapped_high g (c + g - t) (omega (arith, from)) (omega (arith, c_below)) in
      ap (λ y. (y + t) % g) step ∙ mod-eq_of_lt (omega (arith, from, c_below)) ∙ omega (arith, from)
]

pub turned_on : (g t k : ℕ) → t < g → k < g → ((k + t) % g + g - t) % g ≡ k
turned_on g t k t_below k_below = elim (cases_lt (k + t) g) [
  | inl low ↦
      let step : (k + t) % g ≡ k + t = mod-eq_of_lt low in
      ap (λ y. (y + g - t) % g) step ∙ wrapped_high g (k + t + g - t) (omega arith) (omega (arith, k_below)) ∙ omega arith
  | inr high ↦
      let step : (k + t) % g ≡ k + t - g = wrapped_high g (k + t) high (omega (arith, t_below, k_below)) in
      ap (λ y. (y + g - t) % g) step ∙ mod-eq_of_lt (omega (arith, high, k_below)) ∙ omega (arith, high)
]

-- ---- rounds of n groups with d stripes each: stripe a n d + b d + j is stripe j of group b in round a

pub round_whole : (d n s : ℕ) → (s / (d * n)) * (d * n) + (s / d % n) * d + s % d ≡ s
round_whole d n s =
    let q : s / (d * n) ≡ s / d / n = sym (div-div-eq-div-mul s d n) in
    let inner : (s / d / n) * n + s / d % n ≡ s / d = div-add-mod' (s / d) n in
    let outer : (s / d) * d + s % d ≡ s = div-add-mod' s d in
    let turn : (s / d / n) * (d * n) ≡ ((s / d / n) * n) * d =
    ap (λ x. (s / d / n) * x) (mul_comm d n) ∙ sym (mul_assoc (s / d / n) n d) in
    ap (λ x. x * (d * n) + (s / d % n) * d + s % d) q
    ∙ ap (λ x. x + (s / d % n) * d + s % d) turn
    ∙ ap (λ x. x + s % d) (sym (add-mul ((s / d / n) * n) (s / d % n) d) ∙ ap (λ x. x * d) inner)
    ∙ outer

in_groups : (d n a b j : ℕ) → a * (d * n) + b * d + j ≡ (a * n + b) * d + j
in_groups d n a b j =
    ap (λ x. x + b * d + j) (ap (λ x. a * x) (mul_comm d n) ∙ sym (mul_assoc a n d)) ∙ ap (λ x. x + j) (sym (add-mul (a * n) b d))

pub round_group : (d n a b j : ℕ) → b < n → j < d → (a * (d * n) + b * d + j) / d % n ≡ b
round_group d n a b j group row =
    ap (λ x. x / d % n) (in_groups d n a b j) ∙ ap (λ x. x % n) (div-mul-add (a * n + b) d j row) ∙ mod-mul-add a n b group

pub round_row : (d n a b j : ℕ) → b < n → j < d →
    (a * (d * n) + b * d + j) / (d * n) * d + (a * (d * n) + b * d + j) % d ≡ a * d + j
round_row d n a b j group row =
    let whole = in_groups d n a b j in
    let first : (a * (d * n) + b * d + j) / (d * n) ≡ a =
    sym (div-div-eq-div-mul (a * (d * n) + b * d + j) d n) ∙ ap (λ x. x / d / n) whole
    ∙ ap (λ x. x / n) (div-mul-add (a * n + b) d j row) ∙ div-mul-add a n b group in
    let last : (a * (d * n) + b * d + j) % d ≡ j = ap (λ x. x % d) whole ∙ mod-mul-add (a * n + b) d j row in
    ap (λ x. x * d + (a * (d * n) + b * d + j) % d) first ∙ ap (λ x. a * d + x) last

-- a row isn't above its stripe
pub row_most : (d n s : ℕ) → s / (d * n) * d + s % d ≤ s
row_most d n s =
    let fewer : s / (d * n) ≤ s / d = rw (← div-div-eq-div-mul s d n) (div-le_self (s / d) n) in
    omega (arith, mul-le-mul_right d fewer, div-add-mod' s d)

-- a stripe isn't far above its row
pub stripe_most : (d n a b j : ℕ) → b < n → j < d → a * (d * n) + b * d + j ≤ (a * d + j + d) * n
stripe_most d n a b j group row =
    let turn : a * (d * n) ≡ (a * d) * n = sym (mul_assoc a d n) in
    let split : (a * d + j + d) * n ≡ (a * d) * n + (j * n + d * n) =
    add-mul (a * d + j) d n ∙ ap (λ x. x + d * n) (add-mul (a * d) j n) ∙ omega arith in
    let more : b + 1 ≤ n = omega (arith, group) in
    let less : (b + 1) * d ≤ n * d = mul-le-mul_right d more in
    omega (arith, turn, split, less, add-mul b 1 d, mul_comm n d, row)

-- ---- a number written with two digits

-- the digits of x in rows of w, each of u
pub digits : (u w x : ℕ) → 0 < u → (x / (w * u)) * (w * u) + (x % (w * u)) / u * u + (x % (w * u)) % u ≡ x
digits u w x some = omega (arith, div-add-mod' (x % (w * u)) u, div-add-mod' x (w * u))

-- two digits below their bases make a number below the product
pub two_digits : (u w k b : ℕ) → k < w → b < u → k * u + b < w * u
two_digits u w k b first last =
    let more : k + 1 ≤ w = omega (arith, first) in
    omega (arith, mul-le-mul_right u more, add-mul k 1 u, last)
