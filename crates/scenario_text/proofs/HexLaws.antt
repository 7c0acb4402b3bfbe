-- The laws of keys and of bytes.
use Rattle.std.proofs.Common.{◌≡◌, ℕ, zero, suc, ◌+◌, ◌*◌, ◌/◌, ◌%◌, ◌<◌, Bool, true, false, ◌&&◌, ◌||◌, ◌⊎◌, inl, inr, List, [], ◌∷◌, length, slice_index, Option, Some, None, Result, Ok, Err, codes, refl, sym, ap, ◌∙◌, arith}
use Rattle.std.specs.Prelude.{◌==◌, nat_le, nat_lt, if◌then◌else◌}
use Rattle.std.specs.Str.{bytes_eq}
use Rattle.std.specs.List.{list_any}
use Rattle.std.proofs.lemmas.Bool.{and_parts, eqb-true, false_from_ne_true, cases_lt, or_parts}
use Rattle.std.proofs.lemmas.Slice.Eq.{bytes_eq-Decides}
use Rattle.hex.specs.Hex.{IsBytes, decode_of, decode_sized, decode_pairs, pair_value, value_at, digit_or_error, hex_digit_value, encode_lower, encode_with, lower_digits, ◌>>=◌ as ◌>>>◌}
use Rattle.hex.specs.declared.error.FromHexError.{FromHexError}
use Rattle.hex.proofs.HexLemmas.{decode_of-ok, decode_of-even, decode_sized-ok, decode_sized-twice, decode_of-encode_lower, decode_sized-encode_lower}
use Rattle.scenario_text.specs.declared.hexadecimal.Digits.{Digits}
use Rattle.scenario_text.specs.declared.hexadecimal.Digits.TheVariants.{Either, Lower}
use Rattle.scenario_text.specs.declared.event.EventErr.{EventErr}
use Rattle.scenario_text.specs.declared.event.EventErr.TheVariants.{BadHex}
use Rattle.scenario_text.specs.Parts.{Key, Hex, hex_word}
use Rattle.scenario_text.specs.Spells.{SpellsKey, SpellsBytes}
use Rattle.scenario_text.specs.Reading.{or_bad_hex, any_upper, refuses, key_of, bytes_of}
use Rattle.scenario_text.proofs.Without.{encode_without}
use Rattle.scenario_text.proofs.Forms.{Law, is_space}

-- ---- digits in lower case

hex_bind : {A B : Type 0} (r : Result A FromHexError) (f : A → Result B FromHexError) (y : B)
    → (r >>> f) ≡ Ok y → (x : A) × (r ≡ Ok x) × (f x ≡ Ok y)
hex_bind (Ok x) f y h = (x, refl, h)
hex_bind (Err e) f y h = cc h

abbrev decoded : {A : Type 0} → A → Result A FromHexError
decoded x = Ok x

decoded_same : {A : Type 0} (x y : A) → decoded x ≡ decoded y → x ≡ y
decoded_same x y h = cc h

digit_read : (c i : ℕ) (o : Option ℕ) (v : ℕ) → digit_or_error c i o ≡ Ok v → o ≡ Some v
digit_read c i (Some w) v h = ap Some (decoded_same w v h)
digit_read c i None v h = cc h

abbrev glyph : ℕ → ℕ
glyph v = if nat_lt v 10 then v + 48 else v + 87

abbrev glyphs_match : ℕ → Bool
glyphs_match zero = true
glyphs_match (suc n) = (slice_index lower_digits n == glyph n) && glyphs_match n

glyph_at : (n v : ℕ) → glyphs_match n ≡ true → v < n → slice_index lower_digits v ≡ glyph v
glyph_at zero v h lt = absurd (omega arith)
glyph_at (suc n) v h lt =
    let parts = and_parts (slice_index lower_digits n == glyph n) (glyphs_match n) h in
    elim (cases_lt v n) [
      | inl below ↦ glyph_at n v parts.1 below
      | inr top ↦
          let e : v ≡ n = omega arith in
          rw e (eqb-true (slice_index lower_digits n) (glyph n) parts.0)
    ]

glyph_of : (v : ℕ) → v < 16 → slice_index lower_digits v ≡ glyph v
glyph_of v lt = glyph_at 16 v refl lt

-- the digit of a value is the one that was read, unless that was in upper case
digit_again : (c v : ℕ) → hex_digit_value c ≡ Some v → (nat_le 65 c && nat_le c 70) ≡ false → (v < 16) × (c ≡ glyph v)
digit_again c v h lower = grind (arith)

pairs_again : (i : ℕ) (word bytes : List ℕ) → any_upper word ≡ false → decode_pairs i word ≡ Ok bytes → word ≡ encode_lower bytes
unfolding decode_pairs encode_with
pairs_again i [] bytes lower h = let e = decoded_same [] bytes h in rw (← e) refl
pairs_again i (a ∷ []) bytes lower h = cc h
pairs_again i (a ∷ b ∷ rest) bytes lower h =
    let p0 = hex_bind (pair_value a b i) _ bytes h in
    let p1 = hex_bind (value_at a i) _ p0.0 p0.1 in
    let p2 = hex_bind (value_at b (i + 1)) _ p0.0 p1.2 in
    let p3 = hex_bind (decode_pairs (i + 2) rest) _ bytes p0.2 in
    let low = or_parts (nat_le 65 a && nat_le a 70) _ lower in
    let lows = or_parts (nat_le 65 b && nat_le b 70) (any_upper rest) low.1 in
    let da = digit_again a p1.0 (digit_read a i (hex_digit_value a) p1.0 p1.1) low.0 in
    let db = digit_again b p2.0 (digit_read b (i + 1) (hex_digit_value b) p2.0 p2.1) lows.0 in
    let ih = pairs_again (i + 2) rest p3.0 lows.1 p3.1 in
    let byte : p1.0 * 16 + p2.0 ≡ p0.0 = decoded_same (p1.0 * 16 + p2.0) p0.0 p2.2 in
    let whole = decoded_same (p0.0 ∷ p3.0) bytes p3.2 in
    let high : p0.0 / 16 ≡ p1.0 = omega arith in
    let rest_of : p0.0 % 16 ≡ p2.0 = omega arith in
    let ga = glyph_of p1.0 da.0 in
    let gb = glyph_of p2.0 db.0 in
    rw (← whole, high, rest_of, ga, gb, ← ih, ← da.1, ← db.1) refl

pub lower_again : (word bytes : List ℕ) → any_upper word ≡ false → decode_of word ≡ Ok bytes → word ≡ encode_lower bytes
lower_again word bytes lower h =
    let even = (decode_of-ok word bytes h).0 in
    pairs_again 0 word bytes lower (sym (decode_of-even word even) ∙ h)

-- ---- keys

hex_ok : (r : Result (List ℕ) FromHexError) (bytes : List ℕ) → or_bad_hex r ≡ Ok bytes → r ≡ Ok bytes
hex_ok (Ok b) bytes h = cc h
hex_ok (Err e) bytes h = cc h

refused_test : (b : Bool) (r : Result (List ℕ) EventErr) (bytes : List ℕ) → (if b then Err BadHex else r) ≡ Ok bytes
    → (b ≡ false) × (r ≡ Ok bytes)
refused_test true r bytes h = cc h
refused_test false r bytes h = (refl, h)

key_spelled : (digits : Digits) (word key : List ℕ) → decode_sized word 20 ≡ Ok key → decode_of word ≡ Ok key →
    refuses digits word ≡ false
    → SpellsKey digits key word
key_spelled Either word key sized plain takes = sized
key_spelled Lower word key sized plain takes = lower_again word key takes plain

key_found : (digits : Digits) (word key : List ℕ) → key_of digits word ≡ Ok key →
    ((length key ≡ 20) × IsBytes key) × SpellsKey digits key word
unfolding key_of
key_found digits word key h =
    let t = refused_test (refuses digits word) (or_bad_hex (decode_sized word 20)) key h in
    let spells = hex_ok (decode_sized word 20) key t.1 in
    let twice = decode_sized-ok word 20 key spells in
    let plain = sym (decode_sized-twice word 20 twice) ∙ spells in
    let d = decode_of-ok word key plain in
    ((omega (arith, twice, d.2), d.3), key_spelled digits word key spells plain t.0)

key_again : (digits : Digits) (word key : List ℕ) → (length key ≡ 20) × IsBytes key → SpellsKey digits key word →
    key_of digits word ≡ Ok key
unfolding key_of
key_again Either word key fit h = rw h refl
key_again Lower word key fit h =
    let lower : any_upper (encode_lower key) ≡ false = encode_without _ key refl refl in
    rw (h, lower, decode_sized-encode_lower key 20 fit.0 fit.1) refl

pub key_law : (digits : Digits) → Law digits (key_of digits) Key
key_law digits = record {
  found = λ word key h. key_found digits word key h;
  again = λ word key fit h. key_again digits word key fit h;
  clear = λ key fit. encode_without is_space key refl refl;
}

-- ---- bytes

-- the cases of a word of bytes
bytes_test : (dash none : Bool) (r : Result (List ℕ) EventErr) (bytes : List ℕ)
    → (if dash then Ok [] else if none then Err BadHex else r) ≡ Ok bytes
    → ((dash ≡ true) × (bytes ≡ [])) ⊎ ((dash ≡ false) × (none ≡ false) × (r ≡ Ok bytes))
bytes_test true none r bytes h = inl (refl, cc h)
bytes_test false true r bytes h = cc h
bytes_test false false r bytes h = inr (refl, refl, h)

-- digits that stand for no bytes are none
no_digits : (word : List ℕ) → decode_of word ≡ Ok [] → word ≡ []
no_digits [] h = refl
no_digits (c ∷ word) h = absurd (omega (arith, (decode_of-ok (c ∷ word) [] h).2))

no_bytes : IsBytes []
no_bytes = λ i. omega arith

spelled : (digits : Digits) (word bytes : List ℕ) → bytes_eq word [] ≡ false → refuses digits word ≡ false →
    decode_of word ≡ Ok bytes
    → SpellsBytes digits bytes word
spelled digits word [] some takes h = cc (some, (bytes_eq-Decides word []).1 (no_digits word h))
spelled Either word (b ∷ bytes) some takes h = h
spelled Lower word (b ∷ bytes) some takes h = lower_again word (b ∷ bytes) takes h

dash : (digits : Digits) (word : List ℕ) → word ≡ codes "-" → SpellsBytes digits [] word
dash Either word h = h
dash Lower word h = h

bytes_found : (digits : Digits) (word bytes : List ℕ) → bytes_of digits word ≡ Ok bytes →
    IsBytes bytes × SpellsBytes digits bytes word
unfolding bytes_of
bytes_found digits word bytes h =
    elim (bytes_test (bytes_eq word (codes "-")) (bytes_eq word [] || refuses digits word) (or_bad_hex (decode_of word)) bytes
    h) [
      | inl none ↦ rw none.1 (no_bytes, dash digits word ((bytes_eq-Decides word (codes "-")).0 none.0))
      | inr read ↦
          let t = or_parts (bytes_eq word []) (refuses digits word) read.1 in
          let plain = hex_ok (decode_of word) bytes read.2 in
          ((decode_of-ok word bytes plain).3, spelled digits word bytes t.0 t.1 plain)
    ]

digits_again : (digits : Digits) (b : ℕ) (bytes word : List ℕ) → decode_of word ≡ Ok (b ∷ bytes) → refuses digits word ≡ false
    → bytes_of digits word ≡ Ok (b ∷ bytes)
unfolding bytes_of
digits_again digits b bytes word h takes =
    let twice : length word ≡ 2 * suc (length bytes) = (decode_of-ok word (b ∷ bytes) h).2 in
    let no_dash : bytes_eq word (codes "-") ≡ false =
    false_from_ne_true (bytes_eq word (codes "-"))
    (λ e. let one = ap length ((bytes_eq-Decides word (codes "-")).0 e) in omega (arith, one)) in
    let some : bytes_eq word [] ≡ false =
    false_from_ne_true (bytes_eq word [])
    (λ e. let zero = ap length ((bytes_eq-Decides word []).0 e) in omega (arith, zero)) in
    rw (no_dash, some, takes, h) refl

bytes_again : (digits : Digits) (word bytes : List ℕ) → IsBytes bytes → SpellsBytes digits bytes word →
    bytes_of digits word ≡ Ok bytes
unfolding bytes_of
bytes_again Either word [] fit h = rw h refl
bytes_again Lower word [] fit h = rw h refl
bytes_again Either word (b ∷ bytes) fit h = digits_again Either b bytes word h refl
bytes_again Lower word (b ∷ bytes) fit h =
    rw h (digits_again Lower b bytes (encode_lower (b ∷ bytes)) (decode_of-encode_lower (b ∷ bytes) fit)
    (encode_without _ (b ∷ bytes) refl refl))

bytes_clear : (bytes : List ℕ) → list_any is_space (hex_word bytes) ≡ false
bytes_clear [] = refl
bytes_clear (b ∷ bytes) = encode_without is_space (b ∷ bytes) refl refl

pub bytes_law : (digits : Digits) → Law digits (bytes_of digits) Hex
bytes_law digits = record {
  found = λ word bytes h. bytes_found digits word bytes h;
  again = λ word bytes fit h. bytes_again digits word bytes fit h;
  clear = λ bytes fit. bytes_clear bytes;
}
