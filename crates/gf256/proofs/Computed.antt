-- A test that is computed at each number below a bound, and the facts that it gives.
use Rattle.std.proofs.Common.{◌≡◌, ℕ, zero, suc, ◌+◌, ◌%◌, ◌<◌, Bool, true, false, cond, get_or, refl, arith, inl, inr}
use Rattle.std.proofs.lemmas.Bool.{cases_lt, ltb-true, eqb-true}
use Rattle.std.specs.Prelude.{nat_eq, nat_lt, nat_le, bit_xor}
use Rattle.gf256.specs.Field.{double, product, product_bits, where_odd, two_to}
use Rattle.gf256.specs.declared.tables.TheConstants.{POWERS, EXPONENTS}

abbrev pub all_under : (ℕ → Bool) → ℕ → Bool
all_under p zero = true
all_under p (suc n) = cond (p n) (all_under p n) false

cond_true : (b c : Bool) → cond b c false ≡ true → (b ≡ true) × (c ≡ true)
cond_true true c e = (refl, e)
cond_true false c e = absurd cc

at_each : (p : ℕ → Bool) (n k : ℕ) → all_under p n ≡ true → k < n → p k ≡ true
at_each p zero k e lt = absurd (omega arith)
at_each p (suc n) k e lt =
    let both = cond_true (p n) (all_under p n) e in
    elim (cases_lt k n) [ inl below ↦ at_each p n k both.1 below | inr above ↦ let same : k ≡ n = omega arith in rw same both.0 ]

doubles : all_under (λ a. nat_lt (double a) 256) 256 ≡ true
unfolding double
doubles = refl

-- twice an element is an element
pub double_lt : (a : ℕ) → a < 256 → double a < 256
double_lt a lt = ltb-true _ _ (at_each (λ a. nat_lt (double a) 256) 256 a doubles lt)

ones : all_under (λ b. nat_eq (product 1 b) b) 256 ≡ true
unfolding double product product_bits where_odd
ones = refl

pub one_product : (b : ℕ) → b < 256 → product 1 b ≡ b
one_product b lt = eqb-true _ _ (at_each (λ b. nat_eq (product 1 b) b) 256 b ones lt)

powers : all_under (λ n. nat_eq (get_or POWERS n 0) (two_to n)) 255 ≡ true
unfolding two_to double product product_bits where_odd
powers = refl

-- each entry of the table of powers
pub power_at : (n : ℕ) → n < 255 → get_or POWERS n 0 ≡ two_to n
power_at n lt = eqb-true _ _ (at_each (λ n. nat_eq (get_or POWERS n 0) (two_to n)) 255 n powers lt)

-- 2 to the power of 255 is 1
pub whole_turn : two_to 255 ≡ 1
unfolding two_to double product product_bits where_odd
whole_turn = refl

exponents : all_under (λ a. nat_eq (get_or POWERS (get_or EXPONENTS (suc a) 0) 0) (suc a)) 255 ≡ true
exponents = refl

exponents_below : all_under (λ a. nat_lt (get_or EXPONENTS a 0) 255) 256 ≡ true
exponents_below = refl

exponents_back : all_under (λ n. nat_eq (get_or EXPONENTS (get_or POWERS n 0) 0) n) 255 ≡ true
exponents_back = refl

pub exponent_lt : (a : ℕ) → a < 256 → get_or EXPONENTS a 0 < 255
exponent_lt a lt = ltb-true _ _ (at_each (λ a. nat_lt (get_or EXPONENTS a 0) 255) 256 a exponents_below lt)

-- each element but 0 is the power of 2 that the table of exponents names
pub exponent_at : (a : ℕ) → 0 < a → a < 256 → two_to (get_or EXPONENTS a 0) ≡ a
exponent_at zero pos lt = absurd (omega arith)
exponent_at (suc a) pos lt =
    let there = eqb-true _ _
    (at_each (λ a. nat_eq (get_or POWERS (get_or EXPONENTS (suc a) 0) 0) (suc a)) 255 a exponents (omega arith)) in
    rw (power_at _ (exponent_lt (suc a) lt)) at there

-- the exponent of a power
pub exponent_of_power : (n : ℕ) → n < 255 → get_or EXPONENTS (two_to n) 0 ≡ n
exponent_of_power n lt =
    rw (power_at n lt) at
    (eqb-true _ _ (at_each (λ n. nat_eq (get_or EXPONENTS (get_or POWERS n 0) 0) n) 255 n exponents_back lt))

positive : all_under (λ n. nat_lt 0 (get_or POWERS n 0)) 255 ≡ true
positive = refl

-- no power is 0
pub power_pos : (n : ℕ) → n < 255 → 0 < two_to n
power_pos n lt = rw (power_at n lt) at (ltb-true _ _ (at_each (λ n. nat_lt 0 (get_or POWERS n 0)) 255 n positive lt))

double_steps : all_under (λ x. nat_eq (bit_xor ((x + x) % 256) (cond (nat_le 128 x) 29 0)) (double x)) 256 ≡ true
unfolding double
double_steps = refl

-- twice an element, by a sum that wraps
pub wrapping_double : (x : ℕ) → x < 256 → bit_xor ((x + x) % 256) (cond (nat_le 128 x) 29 0) ≡ double x
wrapping_double x lt =
    eqb-true _ _ (at_each (λ x. nat_eq (bit_xor ((x + x) % 256) (cond (nat_le 128 x) 29 0)) (double x)) 256 x double_steps lt)
