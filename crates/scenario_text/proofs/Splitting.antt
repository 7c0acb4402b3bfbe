-- The first part of a text, by the place of the first separator.
use Rattle.std.proofs.Common.{◌≡◌, ℕ, ◌+◌, ◌-◌, ◌<◌, ltb, Bool, true, false, cond, List, [], ◌∷◌, length, take, drop, Option, Some, None, Err, refl, arith}
use Rattle.std.specs.Prelude.{◌==◌}
use Rattle.std.specs.List.{slice_split, position, position_or_len}
use Rattle.std.proofs.lemmas.Bool.{ltb-true, ltb-false, lt-ltb, le-ltb, false_from_ne_true}
use Rattle.std.proofs.lemmas.List.{take_all, length-drop}
use Rattle.std.proofs.lemmas.List.Elements.{All-from_get_or}
use Rattle.std.proofs.lemmas.List.Splits.{slice_split_first, slice_split_none, length-slice_split}
use Rattle.std.proofs.lemmas.List.Sums.{fails_before_first, position_or_len_is}
use Rattle.memchr.specs.Find.{IsFirstByte, is_byte}
use Rattle.scenario_text.specs.declared.event.EventErr.TheVariants.{Extra}
use Rattle.scenario_text.specs.Reading.{nothing}

by_test : (b : Bool) (m i : ℕ) → cond b (Some m) None ≡ Some i → (b ≡ true) × (m ≡ i)
by_test true m i h = (refl, cc h)
by_test false m i h = cc h

none_by_test : (b : Bool) (m : ℕ) → cond b (Some m) None ≡ None → b ≡ false
none_by_test true m h = cc h
none_by_test false m h = refl

-- the first place by a search is the first by the test
pub found_first : (separator : ℕ) (line : List ℕ) (r : Option ℕ) → IsFirstByte (is_byte separator) line r →
    r ≡ position (λ b. b == separator) line
found_first separator line None none =
    let all : position_or_len (λ (b : ℕ). b == separator) line ≡ length line =
    position_or_len_is (λ (b : ℕ). b == separator) line (length line) 0 (omega arith)
    (λ k lt. false_from_ne_true _ (none k (omega arith) lt)) (λ lt. absurd (omega arith)) in
    rw (all, le-ltb (length line) (length line) (omega arith)) refl
found_first separator line (Some k) found =
    let here : position_or_len (λ (b : ℕ). b == separator) line ≡ k =
    position_or_len_is (λ (b : ℕ). b == separator) line k 0 (omega (arith, found.0.high))
    (λ j lt. false_from_ne_true _ (found.0.before j (omega arith) lt)) (λ lt. found.1) in
    rw (here, lt-ltb k (length line) found.0.high) refl

-- the first separator ends the first part
pub split_at_first : (p : ℕ → Bool) (line : List ℕ) (i : ℕ) → position p line ≡ Some i
    → slice_split p line ≡ take i line ∷ slice_split p (take (length line - (i + 1)) (drop (i + 1) line))
split_at_first p line i h =
    let t = by_test (ltb (position_or_len p line) (length line)) (position_or_len p line) i h in
    let e = slice_split_first p line 0 (ltb-true (position_or_len p line) (length line) t.0) in
    let whole = take_all (length line - (i + 1)) (drop (i + 1) line) (omega (arith, length-drop (i + 1) line)) in
    rw whole (rw t.1 at e)

-- with no separator the text is one part
pub split_nowhere : (p : ℕ → Bool) (line : List ℕ) → position p line ≡ None → slice_split p line ≡ line ∷ []
split_nowhere p line h =
    let t = none_by_test (ltb (position_or_len p line) (length line)) (position_or_len p line) h in
    let past = ltb-false (position_or_len p line) (length line) t in
    slice_split_none p line (All-from_get_or (λ b. p b ≡ false) line 0 (λ k lt. fails_before_first p line k 0 (omega arith)))

refused_extra : (words : List (List ℕ)) → 0 < length words → Err Extra ≡ nothing words
refused_extra [] lt = absurd (omega arith)
refused_extra (word ∷ words) lt = refl

-- every text has a part
pub line_is_extra : (p : ℕ → Bool) (line : List ℕ) → Err Extra ≡ nothing (slice_split p line)
line_is_extra p line = refused_extra (slice_split p line) (omega (arith, length-slice_split p line))
