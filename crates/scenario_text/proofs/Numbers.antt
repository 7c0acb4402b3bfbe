-- Decimal texts: what `parse` reads, and the definition of a number's word.
use Rattle.std.proofs.Common.{◌≡◌, ℕ, zero, suc, ◌^◌, ◌<◌, Bool, true, false, ◌&&◌, List, [], ◌∷◌, Option, Some, None, Result, Ok, Err, refl, sym, ap, ◌∙◌, arith}
use Rattle.std.specs.Prelude.{nat_lt, if◌then◌else◌, MatchOption}
use Rattle.std.specs.Result.{result_ok}
use Rattle.std.specs.Fmt.{decimal}
use Rattle.std.specs.Str.{bytes_eq, IsUtf8}
use Rattle.std.specs.Str.Parse.{AllDigits, digits_value, ParsesUnsigned}
use borrow.Author.Tests.{ltb-true, lt-ltb}
use Rattle.std.proofs.lemmas.Slice.Eq.{bytes_eq-Decides}
use Rattle.std.proofs.lemmas.Str.{IsUtf8-from_ascii}
use Rattle.std.proofs.lemmas.Str.Parse.{IsNumeralModel, numerals_by_value, tells_digits, parse_plain}
use Rattle.std.proofs.lemmas.Fmt.{decimal_is_IsNumeral, decimal-digits_value, parse-decimal, IsAscii-decimal, decimal_nonempty, first_decimal, decimal_digit}
use Rattle.scenario_text.specs.Reading.{decimal_of, IsPlain}

-- the digits of `parse`
own : IsNumeralModel (AllDigits 10) (digits_value 10)
own = numerals_by_value (AllDigits 10) tells_digits

-- what a choice of `Some` shows
some_parts : (a b : Bool) (m n : ℕ) → (if a && b then Some m else None) ≡ Some n → (a ≡ true) × (b ≡ true) × (m ≡ n)
some_parts true true m n h = (refl, refl, cc h)
some_parts true false m n h = cc h
some_parts false true m n h = cc h
some_parts false false m n h = cc h

-- a number's word is its decimal text
pub decimal_of-some : (w : List ℕ) (n : ℕ) → decimal_of w ≡ Some n → (n < 2 ^ 64) × (w ≡ decimal n)
unfolding decimal_of
decimal_of-some w n h =
    let p = some_parts (bytes_eq w (decimal (digits_value 10 w))) (nat_lt (digits_value 10 w) (2 ^ 64)) (digits_value 10 w) n h in
    let is = (bytes_eq-Decides w (decimal (digits_value 10 w))).0 p.0 in
    let lt = ltb-true (digits_value 10 w) (2 ^ 64) p.1 in
    (rw p.2 at lt, is ∙ ap decimal p.2)

some_of : (w : List ℕ) (m n : ℕ) → m ≡ n → w ≡ decimal n → n < 2 ^ 64
    → (if bytes_eq w (decimal m) && nat_lt m (2 ^ 64) then Some m else None) ≡ Some n
some_of w m n same is lt =
    let eq = (bytes_eq-Decides w (decimal n)).1 is in
    let below : nat_lt n (2 ^ 64) ≡ true = lt-ltb n (2 ^ 64) lt in
    rw (same, eq, below) refl

pub decimal_of-decimal : (n : ℕ) → n < 2 ^ 64 → decimal_of (decimal n) ≡ Some n
unfolding decimal_of
decimal_of-decimal n lt =
    some_of (decimal n) (digits_value 10 (decimal n)) n (decimal_is_IsNumeral n lt).1 refl lt

-- two ways to say which number a word is
abbrev Tells : List ℕ → Option ℕ → Type 0
Tells w r = MatchOption r ((n : ℕ) → n < 2 ^ 64 → w ≡ decimal n → ⊥) (λ n. (n < 2 ^ 64) × (w ≡ decimal n))

none_told : (w : List ℕ) (o : Option ℕ) → decimal_of w ≡ o → ((n : ℕ) → n < 2 ^ 64 → w ≡ decimal n → ⊥) → None ≡ o
none_told w None e h = refl
none_told w (Some n) e h = let p = decimal_of-some w n e in absurd (h n p.0 p.1)

pub decimal_told : (w : List ℕ) (r : Option ℕ) → Tells w r → r ≡ decimal_of w
decimal_told w None h = none_told w (decimal_of w) refl h
decimal_told w (Some n) h = rw h.1 (sym (decimal_of-decimal n h.0))

-- ---- the code's cases

-- how a decimal text begins
begins : (n : ℕ) → n < 2 ^ 64 → IsPlain (decimal n)
begins zero lt =
    let e : decimal 0 ≡ 48 ∷ [] = decimal_digit 0 (omega arith) in
    rw e (record { some = omega arith; sign = λ e. absurd (omega arith); zeros = λ e. refl })
begins (suc n) lt =
    let high = first_decimal (suc n) (omega arith) lt in
    record { some = decimal_nonempty (suc n) lt; sign = λ e. absurd (omega arith); zeros = λ e. absurd (omega arith) }

pub not_plain : (w : List ℕ) → (IsPlain w → ⊥) → None ≡ decimal_of w
not_plain w h = decimal_told w None (λ n lt e. h (rw e (begins n lt)))

pub no_text : (w : List ℕ) → (IsUtf8 w → ⊥) → None ≡ decimal_of w
no_text w h = decimal_told w None (λ n lt e. h (rw e (IsUtf8-from_ascii (decimal n) (IsAscii-decimal n lt))))

pub parsed : {E : Type 0} (w : List ℕ) (r : Result ℕ E) → IsPlain w → ParsesUnsigned 64 10 w r → result_ok r ≡ decimal_of w
parsed {E} w (Ok n) plain h =
    let p = parse_plain own {E = E} 64 w (Ok n) h plain.sign in
    let back = decimal-digits_value own w p.0.0 p.0.1 plain.zeros p.0.2 in
    decimal_told w (Some n) (rw p.1 p.0.2, rw p.1 (sym back))
parsed w (Err e) plain h = decimal_told w None (λ n lt is. cc (parse-decimal 64 n w (Err e) lt lt is h))
