-- The product by its steps: it is linear in each factor.
use Rattle.std.proofs.Common.{◌≡◌, ℕ, zero, suc, ◌*◌, ◌/◌, ◌%◌, ◌<◌, ◌⊎◌, refl, sym, ◌∙◌, arith, inl, inr}
use Rattle.std.specs.Prelude.{bit_xor}
use Rattle.std.specs.Int.Bits.{xor_zero_r, xor_zero_l, xor_self}
use Rattle.std.proofs.lemmas.Nat.{xor_of_8, xor_mod, xor_shr}
use Rattle.std.proofs.lemmas.Bool.{cases_lt, lt-ltb, le-ltb}
use Rattle.std.proofs.lemmas.Bool.Decides.{eqb_tells}
use Rattle.gf256.specs.Field.{double, product, product_bits, where_odd}
use Rattle.gf256.proofs.Computed.{double_lt}
use Rattle.gf256.proofs.Sums.{xor_swap, xor_twice}

where_odd_yes : (b a : ℕ) → b % 2 ≡ 1 → where_odd b a ≡ a
unfolding where_odd
where_odd_yes b a e = rw e refl

where_odd_no : (b a : ℕ) → b % 2 ≡ 0 → where_odd b a ≡ 0
unfolding where_odd
where_odd_no b a e = rw e refl

odd_or_even : (b : ℕ) → (b % 2 ≡ 1) ⊎ (b % 2 ≡ 0)
odd_or_even b = elim (eqb_tells (b % 2) 1) [ inl p ↦ inl p.1 | inr p ↦ inr (omega (arith, p.1)) ]

where_odd-xor : (b d a : ℕ) → where_odd (bit_xor b d) a ≡ bit_xor (where_odd b a) (where_odd d a)
where_odd-xor b d a =
    let both : bit_xor b d % 2 ≡ bit_xor (b % 2) (d % 2) = xor_mod b d 1 in
    elim (odd_or_even b) [
      | inl p ↦ elim (odd_or_even d) [
        | inl q ↦ where_odd_no (bit_xor b d) a (rw (p, q) at both)
            ∙ sym (rw (where_odd_yes b a p, where_odd_yes d a q) (xor_self a))
        | inr q ↦ where_odd_yes (bit_xor b d) a (rw (p, q) at both)
            ∙ sym (rw (where_odd_yes b a p, where_odd_no d a q) (xor_zero_r a))
      ]
      | inr p ↦ elim (odd_or_even d) [
        | inl q ↦ where_odd_yes (bit_xor b d) a (rw (p, q) at both)
            ∙ sym (rw (where_odd_no b a p, where_odd_yes d a q) (xor_zero_l a))
        | inr q ↦ where_odd_no (bit_xor b d) a (rw (p, q) at both) ∙ sym (rw (where_odd_no b a p, where_odd_no d a q) refl)
      ]
    ]

product_bits-xor : (n a b d : ℕ) → product_bits n a (bit_xor b d) ≡ bit_xor (product_bits n a b) (product_bits n a d)
unfolding product_bits
product_bits-xor zero a b d = refl
product_bits-xor (suc n) a b d =
    let half : bit_xor b d / 2 ≡ bit_xor (b / 2) (d / 2) = xor_shr b d 1 in
    rw (where_odd-xor b d a, half, product_bits-xor n (double a) (b / 2) (d / 2))
    (xor_swap (where_odd b a) (where_odd d a) (product_bits n (double a) (b / 2)) (product_bits n (double a) (d / 2)))

-- the product of a sum is the sum of the products
pub product-xor : (a b d : ℕ) → product a (bit_xor b d) ≡ bit_xor (product a b) (product a d)
unfolding product
product-xor a b d = product_bits-xor 8 a b d

double_is : (a : ℕ) → a < 256 → double a ≡ bit_xor (2 * a) (where_odd (a / 128) 0x11d)
unfolding double
double_is a lt = elim (cases_lt a 128) [
  | inl below ↦ rw (lt-ltb a 128 below, where_odd_no (a / 128) 0x11d (omega arith)) (sym (xor_zero_r (2 * a)))
  | inr above ↦ rw (le-ltb a 128 above, where_odd_yes (a / 128) 0x11d (omega arith)) refl
]

pub double-xor : (a b : ℕ) → a < 256 → b < 256 → double (bit_xor a b) ≡ bit_xor (double a) (double b)
double-xor a b a_lt b_lt =
    let top : bit_xor a b / 128 ≡ bit_xor (a / 128) (b / 128) = xor_shr a b 7 in
    rw (
      double_is (bit_xor a b) (xor_of_8 a b a_lt b_lt),
      double_is a a_lt,
      double_is b b_lt,
      xor_twice a b,
      top,
      where_odd-xor (a / 128) (b / 128) 0x11d,
    )
    (xor_swap (2 * a) (2 * b) (where_odd (a / 128) 0x11d) (where_odd (b / 128) 0x11d))

double_zero : double 0 ≡ 0
unfolding double
double_zero = refl

where_odd_lt : (b a : ℕ) → a < 256 → where_odd b a < 256
where_odd_lt b a lt = elim (odd_or_even b) [ inl p ↦ rw (where_odd_yes b a p) lt | inr p ↦ rw (where_odd_no b a p) (omega arith) ]

where_odd-double : (b a : ℕ) → where_odd b (double a) ≡ double (where_odd b a)
where_odd-double b a = elim (odd_or_even b) [
  | inl p ↦ rw (where_odd_yes b a p, where_odd_yes b (double a) p) refl
  | inr p ↦ rw (where_odd_no b a p, where_odd_no b (double a) p) (sym double_zero)
]

product_bits_lt : (n a b : ℕ) → a < 256 → product_bits n a b < 256
unfolding product_bits
product_bits_lt zero a b lt = omega arith
product_bits_lt (suc n) a b lt =
    xor_of_8 (where_odd b a) (product_bits n (double a) (b / 2)) (where_odd_lt b a lt)
    (product_bits_lt n (double a) (b / 2) (double_lt a lt))

-- a product is an element
pub product_lt : (a b : ℕ) → a < 256 → product a b < 256
unfolding product
product_lt a b lt = product_bits_lt 8 a b lt

product_bits-double : (n a b : ℕ) → a < 256 → product_bits n (double a) b ≡ double (product_bits n a b)
unfolding product_bits
product_bits-double zero a b lt = sym double_zero
product_bits-double (suc n) a b lt =
    rw (where_odd-double b a, product_bits-double n (double a) (b / 2) (double_lt a lt))
    (sym (double-xor (where_odd b a) (product_bits n (double a) (b / 2)) (where_odd_lt b a lt)
    (product_bits_lt n (double a) (b / 2) (double_lt a lt))))

pub double_product : (a b : ℕ) → a < 256 → product (double a) b ≡ double (product a b)
unfolding product
double_product a b lt = product_bits-double 8 a b lt

pub product_two : (a : ℕ) → product a 2 ≡ double a
unfolding product product_bits where_odd
product_two a = xor_zero_r (double a)

pub product_one : (a : ℕ) → product a 1 ≡ a
unfolding product product_bits where_odd
product_one a = xor_zero_r a

product_bits-zero : (n a : ℕ) → product_bits n a 0 ≡ 0
unfolding product_bits where_odd
product_bits-zero zero a = refl
product_bits-zero (suc n) a = product_bits-zero n (double a)

pub product_zero : (a : ℕ) → product a 0 ≡ 0
unfolding product
product_zero a = product_bits-zero 8 a

zero-product_bits : (n b : ℕ) → product_bits n 0 b ≡ 0
unfolding product_bits
zero-product_bits zero b = refl
zero-product_bits (suc n) b =
    let none : where_odd b 0 ≡ 0 = elim (odd_or_even b) [ inl p ↦ where_odd_yes b 0 p | inr p ↦ where_odd_no b 0 p ] in
    rw (none, double_zero) (zero-product_bits n (b / 2))

pub zero_product : (b : ℕ) → product 0 b ≡ 0
unfolding product
zero_product b = zero-product_bits 8 b
