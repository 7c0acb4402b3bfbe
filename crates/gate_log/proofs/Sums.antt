-- One byte that differs shows in the checksum.
use Rattle.std.proofs.Common.{◌≡◌, ◌⊎◌, inl, inr, ℕ, zero, suc, ◌+◌, ◌/◌, ◌%◌, ◌<◌, ◌^◌, List, [], ◌∷◌, ◌++◌, length, drop, get_or, sym, ◌∙◌, ap, subst, arith, refl}
use Rattle.std.specs.Prelude.{bit_xor}
use Rattle.std.specs.Int.Bits.{xor_assoc, xor_self, xor_zero_l}
use Rattle.std.proofs.lemmas.Bool.{cases_eq}
use Rattle.std.proofs.lemmas.List.{drop_all, drop_more}
use Rattle.std.proofs.lemmas.Nat.{xor_comm, xor_lt}
use Rattle.osd_lists.specs.Blocks.{IsBytes}
use Rattle.gate_log.specs.declared.checksum.TheConstants.{ALL_ONES, POLYNOMIAL}
use Rattle.gate_log.specs.Checksum.{after_bit, after_bits, after_bytes, crc_32}

-- ---- sums

pub xor_cancel : (a b : ℕ) → bit_xor a (bit_xor a b) ≡ b
xor_cancel a b = sym (xor_assoc a a b) ∙ ap (λ (n : ℕ). bit_xor n b) (xor_self a) ∙ xor_zero_l b

-- two sums with one part have the other too
pub same_left : (a b c : ℕ) → bit_xor a b ≡ bit_xor a c → b ≡ c
same_left a b c e = sym (xor_cancel a b) ∙ ap (bit_xor a) e ∙ xor_cancel a c

pub same_right : (a b c : ℕ) → bit_xor a c ≡ bit_xor b c → a ≡ b
same_right a b c e = same_left c a b (xor_comm c a ∙ e ∙ xor_comm b c)

-- ---- one bit

pub even_bit : (r : ℕ) → r % 2 ≡ 0 → after_bit r ≡ r / 2
unfolding after_bit
even_bit r e = rw e refl

pub odd_bit : (r : ℕ) → r % 2 ≡ 1 → after_bit r ≡ bit_xor (r / 2) POLYNOMIAL
unfolding after_bit
odd_bit r e = rw e refl

pub parity : (r : ℕ) → (r % 2 ≡ 0) ⊎ (r % 2 ≡ 1)
parity r = elim (cases_eq (r % 2) 0) [ inl e ↦ inl e | inr ne ↦ inr (omega (arith, ne)) ]

low_bit : (r : ℕ) → r < 2 ^ 32 → after_bit r < 2 ^ 32
low_bit r low =
    elim (parity r) [
      | inl e ↦ omega (arith, low, even_bit r e)
      | inr o ↦
          subst (λ (n : ℕ). n < 2 ^ 32) (sym (odd_bit r o))
          (xor_lt 32 (r / 2) POLYNOMIAL (omega (arith, low)) (omega arith))
    ]

-- a register that took the polynomial is none that didn't
apart : (a b : ℕ) → a < 2 ^ 31 → b < 2 ^ 31 → bit_xor a POLYNOMIAL ≡ b → ⊥
apart a b low below e =
    let is : POLYNOMIAL ≡ bit_xor a b = sym (xor_cancel a POLYNOMIAL) ∙ ap (bit_xor a) e in
    omega (arith, is, xor_lt 31 a b low below)

same_bit : (a b : ℕ) → a < 2 ^ 32 → b < 2 ^ 32 → after_bit a ≡ after_bit b → a ≡ b
same_bit a b low below e = by (parity a) (parity b)
  where
    by : (a % 2 ≡ 0) ⊎ (a % 2 ≡ 1) → (b % 2 ≡ 0) ⊎ (b % 2 ≡ 1) → a ≡ b
    by (inl p) (inl q) = let half : a / 2 ≡ b / 2 = sym (even_bit a p) ∙ e ∙ even_bit b q in omega (arith, p, q, half)
    by (inl p) (inr q) =
        absurd (apart (b / 2) (a / 2) (omega (arith, below)) (omega (arith, low)) (sym (odd_bit b q) ∙ sym e ∙ even_bit a p))
    by (inr p) (inl q) =
        absurd (apart (a / 2) (b / 2) (omega (arith, low)) (omega (arith, below)) (sym (odd_bit a p) ∙ e ∙ even_bit b q))
    by (inr p) (inr q) =
        let half : a / 2 ≡ b / 2 = same_right (a / 2) (b / 2) POLYNOMIAL (sym (odd_bit a p) ∙ e ∙ odd_bit b q) in
        omega (arith, p, q, half)

-- ---- bits and bytes

low_bits : (n r : ℕ) → r < 2 ^ 32 → after_bits n r < 2 ^ 32
unfolding after_bits
low_bits zero r low = low
low_bits (suc n) r low = low_bits n (after_bit r) (low_bit r low)

same_bits : (n a b : ℕ) → a < 2 ^ 32 → b < 2 ^ 32 → after_bits n a ≡ after_bits n b → a ≡ b
unfolding after_bits
same_bits zero a b low below e = e
same_bits (suc n) a b low below e =
    same_bit a b low below (same_bits n (after_bit a) (after_bit b) (low_bit a low) (low_bit b below) e)

added : (r byte : ℕ) → r < 2 ^ 32 → byte < 256 → bit_xor r byte < 2 ^ 32
added r byte low small = xor_lt 32 r byte low (omega (arith, small))

low_byte : (r byte : ℕ) → r < 2 ^ 32 → byte < 256 → after_bits 8 (bit_xor r byte) < 2 ^ 32
low_byte r byte low small = low_bits 8 (bit_xor r byte) (added r byte low small)

same_register : (r s byte : ℕ) → r < 2 ^ 32 → s < 2 ^ 32 → byte < 256
    → after_bits 8 (bit_xor r byte) ≡ after_bits 8 (bit_xor s byte) → r ≡ s
same_register r s byte low below small e =
    same_right r s byte (same_bits 8 (bit_xor r byte) (bit_xor s byte) (added r byte low small) (added s byte below small) e)

same_byte : (r x y : ℕ) → r < 2 ^ 32 → x < 256 → y < 256
    → after_bits 8 (bit_xor r x) ≡ after_bits 8 (bit_xor r y) → x ≡ y
same_byte r x y low small few e =
    same_left r x y (same_bits 8 (bit_xor r x) (bit_xor r y) (added r x low small) (added r y low few) e)

-- registers that the same bytes lead to one were one
same_start : (bytes : List ℕ) (r s : ℕ) → IsBytes bytes → r < 2 ^ 32 → s < 2 ^ 32 → after_bytes r bytes ≡ after_bytes s bytes →
    r ≡ s
unfolding after_bytes
same_start [] r s are low below e = e
same_start (byte ∷ bytes) r s are low below e =
    same_register r s byte low below (are 0)
    (same_start bytes (after_bits 8 (bit_xor r byte)) (after_bits 8 (bit_xor s byte)) (λ i. are (suc i))
    (low_byte r byte low (are 0)) (low_byte s byte below (are 0)) e)

differs : (before behind : List ℕ) (x y r : ℕ) → IsBytes (before ++ x ∷ behind) → y < 256 → r < 2 ^ 32
    → after_bytes r (before ++ x ∷ behind) ≡ after_bytes r (before ++ y ∷ behind) → x ≡ y
unfolding after_bytes
differs [] behind x y r are few low e =
    same_byte r x y low (are 0) few
    (same_start behind (after_bits 8 (bit_xor r x)) (after_bits 8 (bit_xor r y)) (λ i. are (suc i))
    (low_byte r x low (are 0)) (low_byte r y low few) e)
differs (byte ∷ before) behind x y r are few low e =
    differs before behind x y (after_bits 8 (bit_xor r byte)) (λ i. are (suc i)) few (low_byte r byte low (are 0)) e

low_bytes : (bytes : List ℕ) (r : ℕ) → IsBytes bytes → r < 2 ^ 32 → after_bytes r bytes < 2 ^ 32
unfolding after_bytes
low_bytes [] r are low = low
low_bytes (byte ∷ bytes) r are low =
    low_bytes bytes (after_bits 8 (bit_xor r byte)) (λ i. are (suc i)) (low_byte r byte low (are 0))

-- ---- one step of it

pub byte_done : (r i : ℕ) (bytes : List ℕ) → i < length bytes
    → after_bytes r (drop i bytes) ≡ after_bytes (after_bits 8 (bit_xor r (get_or bytes i 0))) (drop (i + 1) bytes)
unfolding after_bytes
byte_done r i bytes lt = ap (after_bytes r) (drop_more bytes i 0 lt)

pub all_done : (r i : ℕ) (bytes : List ℕ) → i ≡ length bytes → after_bytes r (drop i bytes) ≡ after_bytes ALL_ONES bytes
    → bit_xor r ALL_ONES ≡ crc_32 bytes
unfolding after_bytes crc_32
all_done r i bytes end is =
    ap (λ (n : ℕ). bit_xor n ALL_ONES) (ap (after_bytes r) (sym (drop_all i bytes (omega (arith, end)))) ∙ is)

-- ---- the checksum

pub crc_low : (bytes : List ℕ) → IsBytes bytes → crc_32 bytes < 2 ^ 32
unfolding crc_32
crc_low bytes are =
    xor_lt 32 (after_bytes ALL_ONES bytes) ALL_ONES (low_bytes bytes ALL_ONES are (omega arith)) (omega arith)

-- bytes that differ in one place have other checksums
pub one_byte : (before behind : List ℕ) (x y : ℕ) → IsBytes (before ++ x ∷ behind) → y < 256
    → crc_32 (before ++ x ∷ behind) ≡ crc_32 (before ++ y ∷ behind) → x ≡ y
unfolding crc_32
one_byte before behind x y are few e =
    differs before behind x y ALL_ONES are few (omega arith)
    (same_right (after_bytes ALL_ONES (before ++ x ∷ behind)) (after_bytes ALL_ONES (before ++ y ∷ behind)) ALL_ONES e)
