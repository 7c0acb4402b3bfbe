-- The product with a byte, from those with its two halves.
use Rattle.std.proofs.Common.{◌≡◌, ℕ, ◌*◌, ◌/◌, ◌%◌, ◌+◌, arith, sym, ap, ◌∙◌}
use Rattle.std.specs.Prelude.{bit_xor}
use Rattle.std.specs.Int.Bits.{xor_zero_r}
use Rattle.std.proofs.lemmas.Nat.{xor_block}
use Rattle.gf256.specs.Field.{product}
use Rattle.gf256.proofs.Product.{product-xor}

halves : (x : ℕ) → bit_xor (x % 16) (16 * (x / 16)) ≡ x
halves x =
    let left : 0 * 16 + x % 16 ≡ x % 16 = omega arith in
    let right : x / 16 * 16 + 0 ≡ 16 * (x / 16) = omega arith in
    rw (left, right) at (xor_block 4 0 (x / 16) (x % 16) 0 (omega arith) (omega arith)) ∙ rw (xor_zero_r (x % 16)) (omega arith)

-- a product is that of the low half and that of the high half
pub of_halves : (a x : ℕ) → bit_xor (product a (x % 16)) (product a (16 * (x / 16))) ≡ product a x
of_halves a x = sym (product-xor a (x % 16) (16 * (x / 16))) ∙ ap (product a) (halves x)
