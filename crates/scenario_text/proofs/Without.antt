-- Words without a byte of some kind, such as a space.
use Rattle.std.proofs.Common.{◌≡◌, ℕ, zero, suc, ◌/◌, ◌%◌, ◌^◌, ◌<◌, ◌≤◌, Bool, true, false, ◌||◌, List, [], ◌∷◌, slice_index, refl, ap, ◌∙◌}
use Rattle.std.specs.Prelude.{◌==◌}
use Rattle.std.specs.Fmt.{decimal}
use Rattle.std.specs.List.{All, list_any, slice_split, join_with_byte}
use Rattle.std.specs.Str.Parse.{AllDigits}
use Rattle.std.proofs.lemmas.Bool.{eq-eqb, or_parts, or_from}
use Rattle.std.proofs.lemmas.Fmt.{decimal_is_IsNumeral}
use Rattle.std.proofs.lemmas.List.Elements.{All-cons, All-nil}
use Rattle.std.proofs.lemmas.List.Splits.{slice_split_at, slice_split_none}
use Rattle.std.proofs.lemmas.Str.Parse.{digit_from_value}
use Rattle.hex.specs.Hex.{encode_with, encode_lower, lower_digits}

-- no byte of any of the words passes the test
abbrev pub none_any : (ℕ → Bool) → List (List ℕ) → Bool
none_any p [] = false
none_any p (word ∷ words) = list_any p word || none_any p words

none_of : (p : ℕ → Bool) (word : List ℕ) → list_any p word ≡ false → All (λ b. p b ≡ false) word
none_of p [] h = All-nil (λ b. p b ≡ false)
none_of p (b ∷ word) h =
    let t = or_parts (p b) (list_any p word) h in
    All-cons (λ b. p b ≡ false) b word t.0 (none_of p word t.1)

-- words without a separator are cut where they were joined by it
pub split_joined : (separator : ℕ) (word : List ℕ) (words : List (List ℕ)) → none_any (λ b. b == separator) (word ∷ words) ≡ false
    → slice_split (λ b. b == separator) (join_with_byte separator (word ∷ words)) ≡ word ∷ words
split_joined separator word [] h =
    let p = or_parts (list_any (λ b. b == separator) word) false h in
    slice_split_none (λ b. b == separator) word (none_of (λ b. b == separator) word p.0)
split_joined separator word (next ∷ words) h =
    let p = or_parts (list_any (λ b. b == separator) word) (none_any (λ b. b == separator) (next ∷ words)) h in
    let same : (separator == separator) ≡ true = eq-eqb separator separator refl in
    slice_split_at (λ b. b == separator) word separator (join_with_byte separator (next ∷ words))
    (none_of (λ b. b == separator) word p.0) same
    ∙ ap (λ (x : List (List ℕ)). word ∷ x) (split_joined separator next words p.1)

-- ---- numbers and bytes

-- the test refuses digits
abbrev pub SparesDigits : (ℕ → Bool) → Type 0
SparesDigits p = (c : ℕ) → 48 ≤ c → c ≤ 57 → p c ≡ false

digits_without : (p : ℕ → Bool) (word : List ℕ) → SparesDigits p → AllDigits 10 word → list_any p word ≡ false
digits_without p [] spares h = refl
digits_without p (c ∷ word) spares h =
    let range = digit_from_value c h.0 in
    or_from (p c) (list_any p word) (spares c range.0 range.1) (digits_without p word spares h.1)

pub decimal_without : (p : ℕ → Bool) (n : ℕ) → SparesDigits p → n < 2 ^ 64 → list_any p (decimal n) ≡ false
decimal_without p n spares lt = digits_without p (decimal n) spares (decimal_is_IsNumeral n lt).0.1

table_at : (p : ℕ → Bool) (t : List ℕ) → p 0 ≡ false → list_any p t ≡ false → (d : ℕ) → p (slice_index t d) ≡ false
table_at p [] none h d = none
table_at p (b ∷ t) none h zero = (or_parts (p b) (list_any p t) h).0
table_at p (b ∷ t) none h (suc d) = table_at p t none (or_parts (p b) (list_any p t) h).1 d

encoded_without : (p : ℕ → Bool) (t bytes : List ℕ) → p 0 ≡ false → list_any p t ≡ false →
    list_any p (encode_with t bytes) ≡ false
unfolding encode_with
encoded_without p t [] none h = refl
encoded_without p t (b ∷ bytes) none h =
    or_from (p (slice_index t (b / 16))) _ (table_at p t none h (b / 16))
    (or_from (p (slice_index t (b % 16))) _ (table_at p t none h (b % 16)) (encoded_without p t bytes none h))

pub encode_without : (p : ℕ → Bool) (bytes : List ℕ) → p 0 ≡ false → list_any p lower_digits ≡ false →
    list_any p (encode_lower bytes) ≡ false
encode_without p bytes none h = encoded_without p lower_digits bytes none h
