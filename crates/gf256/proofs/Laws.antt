-- The laws of the field, by the powers of 2 that its elements are.
use Rattle.std.proofs.Common.{◌≡◌, ℕ, zero, suc, ◌+◌, ◌-◌, ◌*◌, ◌/◌, ◌%◌, ◌<◌, ◌⊎◌, get_or, refl, sym, ap, ◌∙◌, arith, inl, inr}
use Rattle.std.specs.Prelude.{bit_xor}
use Rattle.std.proofs.lemmas.Bool.{cases_lt}
use Rattle.std.proofs.lemmas.Nat.{xor_of_8}
use Rattle.gf256.specs.Field.{double, product, two_to}
use Rattle.gf256.specs.declared.tables.TheConstants.{EXPONENTS}
use Rattle.gf256.proofs.Computed.{one_product, whole_turn, exponent_lt, exponent_at, exponent_of_power, power_pos}
use Rattle.gf256.proofs.Product.{product-xor, product_lt, double_product, product_one, product_two, product_zero, zero_product}

two_to_suc : (n : ℕ) → two_to (suc n) ≡ double (two_to n)
unfolding two_to
two_to_suc n = product_two (two_to n)

pub two_to_zero : two_to 0 ≡ 1
unfolding two_to
two_to_zero = refl

pub two_to_lt : (n : ℕ) → two_to n < 256
unfolding two_to
two_to_lt zero = omega arith
two_to_lt (suc n) = product_lt (two_to n) 2 (two_to_lt n)

-- the product of two powers
pub two_to_add : (i j : ℕ) → product (two_to i) (two_to j) ≡ two_to (i + j)
two_to_add zero j =
    let e : 0 + j ≡ j = omega arith in
    rw (e, two_to_zero) (one_product (two_to j) (two_to_lt j))
two_to_add (suc i) j =
    let e : suc i + j ≡ suc (i + j) = omega arith in
    rw (e, two_to_suc i, two_to_suc (i + j), double_product (two_to i) (two_to j) (two_to_lt i)) (ap double (two_to_add i j))

two_to_turn : (n : ℕ) → two_to (n + 255) ≡ two_to n
two_to_turn n = sym (two_to_add n 255) ∙ rw whole_turn (product_one (two_to n))

two_to_turns : (q r : ℕ) → two_to (255 * q + r) ≡ two_to r
two_to_turns zero r = let e : 255 * 0 + r ≡ r = omega arith in ap two_to e
two_to_turns (suc q) r =
    let e : 255 * suc q + r ≡ (255 * q + r) + 255 = omega arith in
    rw e (two_to_turn (255 * q + r) ∙ two_to_turns q r)

-- powers repeat after 255
pub two_to_mod : (n : ℕ) → two_to (n % 255) ≡ two_to n
two_to_mod n =
    let e : n ≡ 255 * (n / 255) + n % 255 = omega arith in
    sym (ap two_to e ∙ two_to_turns (n / 255) (n % 255))

-- the powers below 255 are distinct
pub two_to_injective : (i j : ℕ) → i < 255 → j < 255 → two_to i ≡ two_to j → i ≡ j
two_to_injective i j i_lt j_lt e =
    sym (exponent_of_power i i_lt) ∙ ap (λ (a : ℕ). get_or EXPONENTS a 0) e ∙ exponent_of_power j j_lt

pub two_to_pos : (n : ℕ) → 0 < two_to n
two_to_pos n = rw (two_to_mod n) at (power_pos (n % 255) (omega arith))

-- an element is 0 or a power of 2
pub zero_or_power : (a : ℕ) → a < 256 → (a ≡ 0) ⊎ ((i : ℕ) × (i < 255) × (two_to i ≡ a))
zero_or_power a lt = elim (cases_lt 0 a) [
  | inl pos ↦ inr (get_or EXPONENTS a 0, exponent_lt a lt, exponent_at a pos lt)
  | inr none ↦ inl (omega arith)
]

power_assoc : (i b c : ℕ) → b < 256 → product (product (two_to i) b) c ≡ product (two_to i) (product b c)
power_assoc zero b c lt = rw (two_to_zero, one_product b lt) (sym (one_product (product b c) (product_lt b c lt)))
power_assoc (suc i) b c lt =
    rw (
      two_to_suc i,
      double_product (two_to i) b (two_to_lt i),
      double_product (product (two_to i) b) c (product_lt (two_to i) b (two_to_lt i)),
      double_product (two_to i) (product b c) (two_to_lt i),
    )
    (ap double (power_assoc i b c lt))

pub product_assoc : (a b c : ℕ) → a < 256 → b < 256 → product (product a b) c ≡ product a (product b c)
product_assoc a b c a_lt b_lt = elim (zero_or_power a a_lt) [
  | inl e ↦ rw (e, zero_product b, zero_product c, zero_product (product b c)) refl
  | inr p ↦ rw (← p.2) (power_assoc p.0 b c b_lt)
]

pub product_comm : (a b : ℕ) → a < 256 → b < 256 → product a b ≡ product b a
product_comm a b a_lt b_lt = elim (zero_or_power a a_lt) [
  | inl e ↦ rw (e, zero_product b, product_zero b) refl
  | inr p ↦ elim (zero_or_power b b_lt) [
    | inl e ↦ rw (e, zero_product a, product_zero a) refl
    | inr q ↦
        let e : p.0 + q.0 ≡ q.0 + p.0 = omega arith in
        rw (← p.2, ← q.2) (two_to_add p.0 q.0 ∙ ap two_to e ∙ sym (two_to_add q.0 p.0))
  ]
]

-- the sum of products with one element is the product of the sum
pub xor-product : (a b c : ℕ) → a < 256 → b < 256 → c < 256 → product (bit_xor a b) c ≡ bit_xor (product a c) (product b c)
xor-product a b c a_lt b_lt c_lt =
    rw (
      product_comm (bit_xor a b) c (xor_of_8 a b a_lt b_lt) c_lt,
      product-xor c a b,
      product_comm c a c_lt a_lt,
      product_comm c b c_lt b_lt,
    ) refl

-- each element but 0 has an inverse, a power of 2
pub inverse_power : (a : ℕ) → 0 < a → a < 256 → product a (two_to ((255 - get_or EXPONENTS a 0) % 255)) ≡ 1
inverse_power a pos lt =
    let e : get_or EXPONENTS a 0 + (255 - get_or EXPONENTS a 0) ≡ 255 = omega (arith, exponent_lt a lt) in
    rw (two_to_mod (255 - get_or EXPONENTS a 0))
    (ap (λ (b : ℕ). product b (two_to (255 - get_or EXPONENTS a 0))) (sym (exponent_at a pos lt))
    ∙ two_to_add (get_or EXPONENTS a 0) (255 - get_or EXPONENTS a 0) ∙ ap two_to e ∙ whole_turn)

-- a product with an element is undone by its inverse
pub inverse_undoes : (a b c : ℕ) → a < 256 → b < 256 → c < 256 → product a b ≡ 1 → product b (product a c) ≡ c
inverse_undoes a b c a_lt b_lt c_lt e =
    sym (product_assoc b a c b_lt a_lt) ∙ rw (product_comm b a b_lt a_lt, e) (one_product c c_lt)

-- a product by the exponents of its factors
pub product_of_exponents : (a b : ℕ) → 0 < a → 0 < b → a < 256 → b < 256 →
    product a b ≡ two_to (get_or EXPONENTS a 0 + get_or EXPONENTS b 0)
product_of_exponents a b a_pos b_pos a_lt b_lt =
    sym (sym (two_to_add (get_or EXPONENTS a 0) (get_or EXPONENTS b 0))
    ∙ rw (exponent_at a a_pos a_lt, exponent_at b b_pos b_lt) refl)

-- twice an element, by 2 on the left
pub two_product : (a : ℕ) → a < 256 → product 2 a ≡ double a
two_product a lt = product_comm 2 a (omega arith) lt ∙ product_two a
