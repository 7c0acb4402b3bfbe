-- The laws of numbers, names and positions.
use Rattle.std.proofs.Common.{◌≡◌, ℕ, ◌+◌, ◌^◌, ◌<◌, ◌≤◌, Bool, true, false, ◌&&◌, List, [], ◌∷◌, ◌++◌, length, map, Option, Some, None, Result, Ok, Err, refl, sym, ap, subst, ◌∙◌, arith}
use Rattle.std.specs.Prelude.{◌==◌, nat_eq, nat_le, nat_lt, if◌then◌else◌}
use Rattle.std.specs.Fmt.{decimal}
use Rattle.std.specs.List.{list_any, slice_split, join_with_byte}
use Rattle.std.proofs.lemmas.Bool.{leb-true, le-leb, ltb-true, lt-ltb, eqb-true, eq-eqb, false_from_ne_true, or_parts, or_from}
use Rattle.std.proofs.lemmas.List.Splits.{length-slice_split, join_with_byte-slice_split}
use Rattle.scenario_text.specs.declared.event.EventErr.{EventErr}
use Rattle.scenario_text.specs.declared.event.EventErr.TheVariants.{BadNumber, BadName}
use Rattle.scenario_text.specs.declared.hexadecimal.Digits.{Digits}
use Rattle.scenario_text.specs.Parts.{Number, Name, Positions, positions_word, Rising, PositionsFit}
use Rattle.scenario_text.specs.Reading.{in_range, below, number_of, name_of, decimal_of, rising_of, positions_of}
use Rattle.scenario_text.proofs.Results.{bind_ok, good_same}
use Rattle.scenario_text.proofs.Numbers.{decimal_of-some, decimal_of-decimal}
use Rattle.scenario_text.proofs.Without.{none_any, split_joined, SparesDigits, decimal_without}
use Rattle.scenario_text.proofs.Forms.{Law, is_space}

spares : SparesDigits is_space
spares c low high = false_from_ne_true (is_space c) (λ t. let is = eqb-true c 32 t in omega arith)

pub decimal_clear : (n : ℕ) → n < 2 ^ 64 → list_any is_space (decimal n) ≡ false
decimal_clear n lt = decimal_without is_space n spares lt

-- ---- numbers

ranged : (a b : Bool) (m n : ℕ) → (if a && b then Ok m else Err BadNumber) ≡ Ok n → (a ≡ true) × (b ≡ true) × (m ≡ n)
ranged true true m n h = (refl, refl, cc h)
ranged true false m n h = cc h
ranged false true m n h = cc h
ranged false false m n h = cc h

in_range_ok : (least most : ℕ) (o : Option ℕ) (n : ℕ) → in_range least most o ≡ Ok n → (o ≡ Some n) × (least ≤ n) × (n ≤ most)
in_range_ok least most None n h = cc h
in_range_ok least most (Some m) n h =
    let t = ranged (nat_le least m) (nat_le m most) m n h in
    let low = leb-true least m t.0 in
    let high = leb-true m most t.1 in
    (ap Some t.2, rw t.2 at low, rw t.2 at high)

pub number_ok : (least most : ℕ) (word : List ℕ) (n : ℕ) → number_of least most word ≡ Ok n →
    (least ≤ n) × (n ≤ most) × (word ≡ decimal n)
unfolding number_of
number_ok least most word n h =
    let r = in_range_ok least most (decimal_of word) n h in
    (r.1, r.2, (decimal_of-some word n r.0).1)

pub number_again : (least most n : ℕ) → least ≤ n → n ≤ most → most < 2 ^ 64 → number_of least most (decimal n) ≡ Ok n
unfolding number_of
number_again least most n low high lt =
    let a : nat_le least n ≡ true = le-leb least n low in
    let b : nat_le n most ≡ true = le-leb n most high in
    rw (decimal_of-decimal n (omega arith), a, b) refl

pub number_law : (digits : Digits) (least most : ℕ) → most < 2 ^ 64 → Law digits (number_of least most) (Number least most)
number_law digits least most lt = record {
  found = λ word n h. let r = number_ok least most word n h in ((r.0, r.1), r.2);
  again = λ word n fit is. rw is (number_again least most n fit.0 fit.1 lt);
  clear = λ n fit. decimal_clear n (omega (arith, fit, lt));
}

-- ---- names

below_ok : (count : ℕ) (o : Option ℕ) (n : ℕ) → below count o ≡ Ok n → (o ≡ Some n) × (n < count)
below_ok count None n h = cc h
below_ok count (Some m) n h = let t = below_test (nat_lt m count) m n h in let lt = ltb-true m count t.0 in
    (ap Some t.1, rw t.1 at lt)
  where
    below_test : (b : Bool) (m n : ℕ) → (if b then Ok m else Err BadName) ≡ Ok n → (b ≡ true) × (m ≡ n)
    below_test true m n h = (refl, cc h)
    below_test false m n h = cc h

name_test : (b : Bool) (r : Result ℕ EventErr) (n : ℕ) → (if b then r else Err BadName) ≡ Ok n → (b ≡ true) × (r ≡ Ok n)
name_test true r n h = (refl, h)
name_test false r n h = cc h

pub name_ok : (letter count : ℕ) (word : List ℕ) (n : ℕ) → name_of letter count word ≡ Ok n →
    (n < count) × (word ≡ letter ∷ decimal n)
unfolding name_of
name_ok letter count [] n h = cc h
name_ok letter count (c ∷ digits) n h =
    let t = name_test (nat_eq c letter) (below count (decimal_of digits)) n h in
    let r = below_ok count (decimal_of digits) n t.1 in
    let d = decimal_of-some digits n r.0 in
    let l = eqb-true c letter t.0 in
    (r.1, rw (l, d.1) refl)

pub name_again : (letter count n : ℕ) → n < count → n < 2 ^ 64 → name_of letter count (letter ∷ decimal n) ≡ Ok n
unfolding name_of
name_again letter count n lt few =
    let same : nat_eq letter letter ≡ true = eq-eqb letter letter refl in
    let high : nat_lt n count ≡ true = lt-ltb n count lt in
    rw (same, decimal_of-decimal n few, high) refl

pub name_law : (digits : Digits) (letter count : ℕ) → count ≤ 2 ^ 64 → is_space letter ≡ false →
    Law digits (name_of letter count) (Name letter count)
name_law digits letter count few letters = record {
  found = λ word n h. name_ok letter count word n h;
  again = λ word n fit is. rw is (name_again letter count n fit (omega (arith, fit, few)));
  clear = λ n fit. or_from _ _ letters (decimal_clear n (omega (arith, fit, few)));
}

-- ---- positions

rising_found : (least : ℕ) (parts : List (List ℕ)) (ps : List ℕ) → rising_of least parts ≡ Ok ps →
    Rising least ps × (parts ≡ map decimal ps)
unfolding rising_of
rising_found least [] ps h = let e = good_same [] ps h in rw (← e) (tt, refl)
rising_found least (word ∷ parts) ps h =
    let a = bind_ok (number_of least 4294967295 word) _ ps h in
    let b = bind_ok (rising_of (a.0 + 1) parts) _ ps a.2 in
    let n = number_ok least 4294967295 word a.0 a.1 in
    let ih = rising_found (a.0 + 1) parts b.0 b.1 in
    let e = good_same (a.0 ∷ b.0) ps b.2 in
    let whole : Rising least (a.0 ∷ b.0) × (word ∷ parts ≡ map decimal (a.0 ∷ b.0)) =
    ((n.0, omega (arith, n), ih.0), cc (n.2, ih.1)) in
    subst (λ (x : List ℕ). Rising least x × (word ∷ parts ≡ map decimal x)) e whole

at_least_one : (ps : List ℕ) → Rising 0 ps → 0 < length (map decimal ps) → PositionsFit ps
at_least_one [] h lt = absurd (omega arith)
at_least_one (p ∷ ps) h lt = h

positions_found : (word ps : List ℕ) → positions_of word ≡ Ok ps → PositionsFit ps × (word ≡ positions_word ps)
unfolding positions_of
positions_found word ps h =
    let r = rising_found 0 (slice_split (λ b. b == 44) word) ps h in
    let len = length-slice_split (λ b. b == 44) word in
    let some : 0 < length (map decimal ps) = rw (← r.1) (omega (arith, len)) in
    (at_least_one ps r.0 some, sym (join_with_byte-slice_split 44 word) ∙ ap (join_with_byte 44) r.1)

rising_again : (least : ℕ) (ps : List ℕ) → Rising least ps → rising_of least (map decimal ps) ≡ Ok ps
unfolding rising_of
rising_again least [] h = refl
rising_again least (p ∷ ps) h =
    rw (number_again least 4294967295 p h.0 (omega arith) (omega arith), rising_again (p + 1) ps h.2) refl

no_comma : SparesDigits (λ b. b == 44)
no_comma c low high = false_from_ne_true (c == 44) (λ t. let is = eqb-true c 44 t in omega arith)

commas : (least : ℕ) (ps : List ℕ) → Rising least ps → none_any (λ b. b == 44) (map decimal ps) ≡ false
commas least [] h = refl
commas least (p ∷ ps) h = or_from _ _ (decimal_without (λ b. b == 44) p no_comma (omega arith)) (commas (p + 1) ps h.2)

positions_again : (ps : List ℕ) → PositionsFit ps → positions_of (positions_word ps) ≡ Ok ps
unfolding positions_of
positions_again [] h = absurd h
positions_again (p ∷ ps) h = rw (split_joined 44 (decimal p) (map decimal ps) (commas 0 (p ∷ ps) h)) (rising_again 0 (p ∷ ps) h)

any_append : (p : ℕ → Bool) (xs ys : List ℕ) → list_any p xs ≡ false → list_any p ys ≡ false → list_any p (xs ++ ys) ≡ false
any_append p [] ys hx hy = hy
any_append p (x ∷ xs) ys hx hy = let t = or_parts (p x) (list_any p xs) hx in or_from _ _ t.0 (any_append p xs ys t.1 hy)

-- positions behind the first one
joined_clear : (p least : ℕ) (ps : List ℕ) → p < 2 ^ 32 → Rising least ps → list_any is_space (positions_word (p ∷ ps)) ≡ false
joined_clear p least [] lt h = decimal_clear p (omega arith)
joined_clear p least (q ∷ ps) lt h =
    any_append is_space (decimal p) (44 ∷ positions_word (q ∷ ps)) (decimal_clear p (omega arith))
    (joined_clear q (q + 1) ps h.1 h.2)

positions_clear : (ps : List ℕ) → PositionsFit ps → list_any is_space (positions_word ps) ≡ false
positions_clear [] h = absurd h
positions_clear (p ∷ ps) h = joined_clear p (p + 1) ps h.1 h.2

pub positions_law : (digits : Digits) → Law digits positions_of Positions
positions_law digits = record {
  found = λ word ps h. positions_found word ps h;
  again = λ word ps fit is. rw is (positions_again ps fit);
  clear = λ ps fit. positions_clear ps fit;
}
