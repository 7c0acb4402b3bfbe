-- Digits that are written block by block.
use Rattle.std.proofs.Common.{◌≡◌, ℕ, ◌/◌, ◌%◌, List, [], ◌∷◌, ◌++◌, slice_index, refl, sym, ap, ◌∙◌, append_assoc, length, arith}
use Rattle.std.proofs.lemmas.List.{append-nil}
use Rattle.hex.specs.Hex.{encode_lower, encode_with, lower_digits}

encoded_append : (t xs ys : List ℕ) → encode_with t (xs ++ ys) ≡ encode_with t xs ++ encode_with t ys
unfolding encode_with
encoded_append t [] ys = refl
encoded_append t (b ∷ xs) ys =
    ap (λ (digits : List ℕ). slice_index t (b / 16) ∷ slice_index t (b % 16) ∷ digits) (encoded_append t xs ys)

-- one more block is out
pub block_out : (out new whole rest block later : List ℕ) → rest ≡ block ++ later → out ++ encode_lower rest ≡ whole
    → new ≡ out ++ encode_lower block → new ++ encode_lower later ≡ whole
block_out out new whole rest block later parts before e_new =
    rw e_new (append_assoc out (encode_lower block) (encode_lower later)
    ∙ ap (λ (digits : List ℕ). out ++ digits) (sym (encoded_append lower_digits block later) ∙ ap encode_lower (sym parts))
    ∙ before)

-- all are
pub all_out : (out whole rest : List ℕ) → length rest ≡ 0 → out ++ encode_lower rest ≡ whole → out ≡ whole
unfolding encode_with
all_out out whole [] none before = sym (append-nil out) ∙ before
all_out out whole (b ∷ rest) none before = absurd (omega (arith, none))
