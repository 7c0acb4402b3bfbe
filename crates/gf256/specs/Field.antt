-- The field of 256 elements: a byte is a polynomial over bits, reduced by x^8 + x^4 + x^3 + x^2 + 1.
use Rattle.std.specs.Prelude.{ℕ, zero, suc, ◌+◌, ◌*◌, ◌/◌, ◌%◌, ◌==◌, bit_xor, nat_lt, nat_eq, if◌then◌else◌, List}
use lib.Lanes.{zip2}

-- x times a polynomial, reduced
unfoldable pub double : ℕ → ℕ
double a = if nat_lt a 128 then 2 * a else bit_xor (2 * a) 0x11d

-- a where the lowest bit of b is set, and else 0
unfoldable pub where_odd : ℕ → ℕ → ℕ
where_odd b a = if nat_eq (b % 2) 1 then a else 0

-- the sum of x^k a over the bits k that are set in b, of which the first n count
unfoldable pub product_bits : ℕ → ℕ → ℕ → ℕ
product_bits zero a b = 0
product_bits (suc n) a b = bit_xor (where_odd b a) (product_bits n (double a) (b / 2))

-- the product of two elements
unfoldable pub product : ℕ → ℕ → ℕ
product a b = product_bits 8 a b

-- 2 to the power of n
unfoldable pub two_to : ℕ → ℕ
two_to zero = 1
two_to (suc n) = product (two_to n) 2

-- the first of n elements from b on whose product with a is 1, or 0 where none has it
unfoldable pub inverse_from : (a b n : ℕ) → ℕ
inverse_from a b zero = 0
inverse_from a b (suc n) = if product a b == 1 then b else inverse_from a (b + 1) n

-- the inverse of an element, which 0 doesn't have
abbrev pub inverse_of : ℕ → ℕ
inverse_of a = inverse_from a 0 256

-- out with c times src added to it
abbrev pub added : ℕ → List ℕ → List ℕ → List ℕ
added c out src = zip2 (λ o s. bit_xor o (product c s)) out src

-- out with src added to it
abbrev pub summed : List ℕ → List ℕ → List ℕ
summed out src = zip2 bit_xor out src
