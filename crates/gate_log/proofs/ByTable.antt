-- Eight bits at once, by a table.
use Rattle.std.proofs.Common.{◌≡◌, ◌⊎◌, inl, inr, ℕ, zero, suc, ◌+◌, ◌*◌, ◌/◌, ◌%◌, ◌<◌, ◌^◌, Bool, true, false, cond, get_or, sym, ◌∙◌, ap, arith, refl}
use Rattle.std.specs.Prelude.{bit_xor, nat_eq}
use Rattle.std.specs.Int.Bits.{xor_assoc, xor_zero_l, xor_zero_r}
use Rattle.std.proofs.lemmas.Bool.{cases_lt, eqb-true}
use Rattle.std.proofs.lemmas.Nat.{xor_block, xor_comm, xor_mod, xor_shr}
use Rattle.gate_log.specs.declared.checksum.TheConstants.{POLYNOMIAL}
use Rattle.gate_log.specs.declared.table.TheConstants.{AFTER_BYTE}
use Rattle.gate_log.specs.Checksum.{after_bit, after_bits}
use Rattle.gate_log.proofs.Sums.{even_bit, odd_bit, parity, xor_cancel}

-- ---- sums go through

halves : (a b : ℕ) → bit_xor a b / 2 ≡ bit_xor (a / 2) (b / 2)
halves a b = xor_shr a b 1

low_bits : (a b p q : ℕ) → a % 2 ≡ p → b % 2 ≡ q → bit_xor a b % 2 ≡ bit_xor p q
low_bits a b p q one two = xor_mod a b 1 ∙ ap (λ (n : ℕ). bit_xor n (b % 2)) one ∙ ap (bit_xor p) two

linear_bit : (a b : ℕ) → after_bit (bit_xor a b) ≡ bit_xor (after_bit a) (after_bit b)
linear_bit a b = by (parity a) (parity b)
  where
    by : (a % 2 ≡ 0) ⊎ (a % 2 ≡ 1) → (b % 2 ≡ 0) ⊎ (b % 2 ≡ 1) → after_bit (bit_xor a b) ≡ bit_xor (after_bit a) (after_bit b)
    by (inl p) (inl q) =
        even_bit (bit_xor a b) (low_bits a b 0 0 p q) ∙ halves a b
        ∙ sym (ap (λ (n : ℕ). bit_xor n (after_bit b)) (even_bit a p) ∙ ap (bit_xor (a / 2)) (even_bit b q))
    by (inl p) (inr q) =
        odd_bit (bit_xor a b) (low_bits a b 0 1 p q) ∙ ap (λ (n : ℕ). bit_xor n POLYNOMIAL) (halves a b)
        ∙ xor_assoc (a / 2) (b / 2) POLYNOMIAL
        ∙ sym (ap (λ (n : ℕ). bit_xor n (after_bit b)) (even_bit a p) ∙ ap (bit_xor (a / 2)) (odd_bit b q))
    by (inr p) (inl q) =
        odd_bit (bit_xor a b) (low_bits a b 1 0 p q) ∙ ap (λ (n : ℕ). bit_xor n POLYNOMIAL) (halves a b)
        ∙ xor_assoc (a / 2) (b / 2) POLYNOMIAL
        ∙ ap (bit_xor (a / 2)) (xor_comm (b / 2) POLYNOMIAL)
        ∙ sym (xor_assoc (a / 2) POLYNOMIAL (b / 2))
        ∙ sym (ap (λ (n : ℕ). bit_xor n (after_bit b)) (odd_bit a p) ∙ ap (bit_xor (bit_xor (a / 2) POLYNOMIAL)) (even_bit b q))
    by (inr p) (inr q) =
        even_bit (bit_xor a b) (low_bits a b 1 1 p q) ∙ halves a b
        ∙ ap (bit_xor (a / 2)) (sym (xor_cancel POLYNOMIAL (b / 2)) ∙ ap (bit_xor POLYNOMIAL) (xor_comm POLYNOMIAL (b / 2)))
        ∙ sym (xor_assoc (a / 2) POLYNOMIAL (bit_xor (b / 2) POLYNOMIAL))
        ∙ sym (ap (λ (n : ℕ). bit_xor n (after_bit b)) (odd_bit a p) ∙ ap (bit_xor (bit_xor (a / 2) POLYNOMIAL)) (odd_bit b q))

linear_bits : (n a b : ℕ) → after_bits n (bit_xor a b) ≡ bit_xor (after_bits n a) (after_bits n b)
unfolding after_bits
linear_bits zero a b = refl
linear_bits (suc n) a b = ap (after_bits n) (linear_bit a b) ∙ linear_bits n (after_bit a) (after_bit b)

-- ---- the upper part of a register is moved down

down : (n a b : ℕ) → b ≡ 2 * a → after_bits (suc n) b ≡ after_bits n a
unfolding after_bits
down n a b twice =
    let half : b / 2 ≡ a = omega (arith, twice) in
    ap (after_bits n) (even_bit b (omega (arith, twice)) ∙ half)

none_left : (r : ℕ) → after_bits 0 r ≡ r
unfolding after_bits
none_left r = refl

moved_down : (h : ℕ) → after_bits 8 (h * 256) ≡ h
moved_down h =
    down 7 (h * 128) (h * 256) (omega arith)
    ∙ down 6 (h * 64) (h * 128) (omega arith)
    ∙ down 5 (h * 32) (h * 64) (omega arith)
    ∙ down 4 (h * 16) (h * 32) (omega arith)
    ∙ down 3 (h * 8) (h * 16) (omega arith)
    ∙ down 2 (h * 4) (h * 8) (omega arith)
    ∙ down 1 (h * 2) (h * 4) (omega arith)
    ∙ down 0 h (h * 2) (omega arith)
    ∙ none_left h

parts : (r : ℕ) → r ≡ bit_xor (r / 256 * 256) (r % 256)
parts r =
    let whole : r ≡ r / 256 * 2 ^ 8 + r % 256 = omega arith in
    let left : r / 256 * 2 ^ 8 + 0 ≡ r / 256 * 256 = omega arith in
    let right : 0 * 2 ^ 8 + r % 256 ≡ r % 256 = omega arith in
    whole
    ∙ sym (ap (λ (n : ℕ). n * 2 ^ 8 + bit_xor 0 (r % 256)) (xor_zero_r (r / 256))
    ∙ ap (λ (n : ℕ). r / 256 * 2 ^ 8 + n) (xor_zero_l (r % 256)))
    ∙ sym (xor_block 8 (r / 256) 0 0 (r % 256) (omega arith) (omega arith))
    ∙ ap (λ (n : ℕ). bit_xor n (0 * 2 ^ 8 + r % 256)) left
    ∙ ap (bit_xor (r / 256 * 256)) right

-- ---- the table

abbrev all_under : (ℕ → Bool) → ℕ → Bool
all_under p zero = true
all_under p (suc n) = cond (p n) (all_under p n) false

cond_true : (b c : Bool) → cond b c false ≡ true → (b ≡ true) × (c ≡ true)
cond_true true c e = (refl, e)
cond_true false c e = absurd cc

at_each : (p : ℕ → Bool) (n k : ℕ) → all_under p n ≡ true → k < n → p k ≡ true
at_each p zero k e lt = absurd (omega arith)
at_each p (suc n) k e lt =
    let both = cond_true (p n) (all_under p n) e in
    elim (cases_lt k n) [ inl below ↦ at_each p n k both.1 below | inr above ↦ let same : k ≡ n = omega arith in rw same both.0 ]

entries : all_under (λ k. nat_eq (get_or AFTER_BYTE k 0) (after_bits 8 k)) 256 ≡ true
unfolding after_bit after_bits
entries = refl

entry_at : (k : ℕ) → k < 256 → get_or AFTER_BYTE k 0 ≡ after_bits 8 k
entry_at k lt = eqb-true _ _ (at_each (λ k. nat_eq (get_or AFTER_BYTE k 0) (after_bits 8 k)) 256 k entries lt)

-- eight bits of a register: its upper part moved down, and the table's entry of its lowest byte
pub by_table : (r : ℕ) → bit_xor (r / 256) (get_or AFTER_BYTE (r % 256) 0) ≡ after_bits 8 r
by_table r =
    ap (bit_xor (r / 256)) (entry_at (r % 256) (omega arith))
    ∙ sym (ap (after_bits 8) (parts r) ∙ linear_bits 8 (r / 256 * 256) (r % 256)
    ∙ ap (λ (n : ℕ). bit_xor n (after_bits 8 (r % 256))) (moved_down (r / 256)))
