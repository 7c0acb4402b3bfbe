-- The sum of the field, which is XOR.
use Rattle.std.proofs.Common.{◌≡◌, ℕ, ◌+◌, ◌*◌, arith, sym, ap, ◌∙◌}
use Rattle.std.specs.Prelude.{bit_xor}
use Rattle.std.specs.Int.Bits.{xor_assoc, xor_zero_r, xor_zero_l, xor_self}
use Rattle.std.proofs.lemmas.Nat.{xor_comm, xor_block}

-- a sum that is added to one of its parts leaves the other
pub xor_cancel : (a b : ℕ) → bit_xor a (bit_xor a b) ≡ b
xor_cancel a b = sym (xor_assoc a a b) ∙ ap (λ (n : ℕ). bit_xor n b) (xor_self a) ∙ xor_zero_l b

-- two sums that are 0 have equal parts
pub xor-eq-zero : (a b : ℕ) → bit_xor a b ≡ 0 → a ≡ b
xor-eq-zero a b e = sym (xor_zero_r a) ∙ ap (bit_xor a) (sym e) ∙ xor_cancel a b

pub xor_left_comm : (a b c : ℕ) → bit_xor a (bit_xor b c) ≡ bit_xor b (bit_xor a c)
xor_left_comm a b c = sym (xor_assoc a b c) ∙ ap (λ (n : ℕ). bit_xor n c) (xor_comm a b) ∙ xor_assoc b a c

pub xor_swap : (a b c d : ℕ) → bit_xor (bit_xor a b) (bit_xor c d) ≡ bit_xor (bit_xor a c) (bit_xor b d)
xor_swap a b c d = xor_assoc a b (bit_xor c d) ∙ ap (bit_xor a) (xor_left_comm b c d) ∙ sym (xor_assoc a c (bit_xor b d))

pub xor_twice : (a b : ℕ) → 2 * bit_xor a b ≡ bit_xor (2 * a) (2 * b)
xor_twice a b =
    let left : a * 2 + 0 ≡ 2 * a = omega arith in
    let right : b * 2 + 0 ≡ 2 * b = omega arith in
    let whole : bit_xor a b * 2 + 0 ≡ 2 * bit_xor a b = omega arith in
    let block : bit_xor (a * 2 + 0) (b * 2 + 0) ≡ bit_xor a b * 2 + 0 = xor_block 1 a b 0 0 (omega arith) (omega arith) in
    sym (rw (left, right, whole) at block)
