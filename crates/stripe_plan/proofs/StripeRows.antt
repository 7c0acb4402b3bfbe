-- The rows of a stripe and their columns.
use Rattle.std.proofs.Common.{◌≡◌, ℕ, zero, suc, ◌+◌, ◌-◌, ◌*◌, ◌<◌, ◌≤◌, true, false, List, [], ◌∷◌, length, get_or, map, refl, sym, ap, ◌∙◌, arith, inl, inr}
use Rattle.std.specs.Prelude.{if◌then◌else◌, slice_get, Some, Ok}
use Rattle.std.specs.List.{All, range_with_len}
use Rattle.std.proofs.lemmas.Bool.{cases_Bool, le-ltb}
use Rattle.std.proofs.lemmas.List.{get_or-replicate, length-replicate, length-map, get_or-map}
use Rattle.std.proofs.lemmas.List.FromFn.{length-map-range_with_len, get_or-map-range_with_len}
use Rattle.std.proofs.lemmas.Grind.{same_number_lists}
use Rattle.std.proofs.lemmas.Option.{get_or_from_slice_get}
use Rattle.data_map.specs.declared.check.RawMap.{RawMap}
use Rattle.data_map.specs.Check.{IsChecked}
use Rattle.data_map.specs.Striping.{group_width, data_units, parities, position_of, offset_of, row_of}
use Rattle.parity_code.specs.Parity.{column}
use Rattle.parity_code.specs.Codeword.{count_of, width_of, AreRows}
use Rattle.parity_code.specs.Decoding.{decoded, decoding, ArePositions}
use Rattle.stripe_plan.specs.declared.plan.Interval.{Interval}
use Rattle.stripe_plan.specs.declared.plan.Column.{Column}
use Rattle.stripe_plan.specs.Lost.{is_out}
use Rattle.stripe_plan.specs.Words.{code_of, byte_at, got_at, got_in, known_in, known_rows, known_from, lost_from, decoded_at, HasColumns, answer_in, answered_in}
use Rattle.stripe_plan.proofs.Counting.{RisesFrom, lost_rises}
use Rattle.stripe_plan.proofs.Columning.{code_count}

-- ---- maps over ranges

pub same_range : {A : Type 0} (f g : ℕ → A) (a n : ℕ) → ((b : ℕ) → a ≤ b → b < a + n → f b ≡ g b) →
    map f (range_with_len a n) ≡ map g (range_with_len a n)
same_range f g a zero e = refl
same_range f g a (suc n) e =
    ap (λ x. x ∷ map f (range_with_len (a + 1) n)) (e a (omega arith) (omega arith))
    ∙ ap (λ xs. g a ∷ xs) (same_range f g (a + 1) n (λ b le lt. e b (omega (arith, le)) (omega (arith, lt))))

pub shifted : {A : Type 0} (f : ℕ → A) (x a n : ℕ) →
    map f (range_with_len (x + a) n) ≡ map (λ (b : ℕ). f (x + b)) (range_with_len a n)
shifted f x a zero = refl
shifted f x a (suc n) =
    let e : x + a + 1 ≡ x + (a + 1) = omega arith in
    ap (λ xs. f (x + a) ∷ xs) (ap (λ (z : ℕ). map f (range_with_len z n)) e ∙ shifted f x (a + 1) n)

-- ---- known rows

known_long : (m : RawMap) (got : List Column) (out : List ℕ) (s c : ℕ) (i : Interval) →
    length (known_in m got out s i c) ≡ i.end - i.first
known_long m got out s c i = elim (cases_Bool (is_out m out (position_of m s c))) [
  | inl gone ↦ rw gone (length-replicate (i.end - i.first) 0)
  | inr there ↦ rw there (length-map-range_with_len (byte_at got (position_of m s c)) (offset_of m s i.first) (i.end - i.first))
]

known_at : (m : RawMap) (got : List Column) (out : List ℕ) (s c k : ℕ) (i : Interval) → k < i.end - i.first →
    get_or (known_in m got out s i c) k 0 ≡ (if is_out m out (position_of m s c) then 0 else got_at m got s (i.first + k) c)
known_at m got out s c k i lt = elim (cases_Bool (is_out m out (position_of m s c))) [
  | inl gone ↦ rw gone (get_or-replicate (i.end - i.first) k 0 0 lt)
  | inr there ↦ rw there
      (get_or-map-range_with_len (byte_at got (position_of m s c)) (offset_of m s i.first) (i.end - i.first) k
      (offset_of m s (i.first + k)) 0 lt (omega arith))
]

-- their columns
known_column : (m : RawMap) (got : List Column) (out : List ℕ) (s k : ℕ) (i : Interval) (c n : ℕ) → k < i.end - i.first →
    column (map (known_in m got out s i) (range_with_len c n)) k ≡ known_from m got out s (i.first + k) c n
unfolding known_from
known_column m got out s k i c zero lt = refl
known_column m got out s k i c (suc n) lt =
    ap (λ (x : ℕ). x ∷ column (map (known_in m got out s i) (range_with_len (c + 1) n)) k) (known_at m got out s c k i lt)
    ∙ ap (λ xs. (if is_out m out (position_of m s c) then 0 else got_at m got s (i.first + k) c) ∷ xs)
    (known_column m got out s k i (c + 1) n lt)

known_even : (m : RawMap) (got : List Column) (out : List ℕ) (s : ℕ) (i : Interval) (c n : ℕ) →
    All (λ row. length row ≡ i.end - i.first) (map (known_in m got out s i) (range_with_len c n))
known_even m got out s i c n = λ k d lt.
    let low : k < n = omega (arith, lt, length-map-range_with_len (known_in m got out s i) c n) in
    ap length (get_or-map-range_with_len (known_in m got out s i) c n k (c + k) d low refl) ∙ known_long m got out s (c + k) i

pub width_is : (w : ℕ) (rows : List (List ℕ)) → 0 < length rows → All (λ row. length row ≡ w) rows → width_of rows ≡ w
width_is w [] some even = absurd (omega (arith, some))
width_is w (x ∷ xs) some even = even 0 [] (omega arith)

pub known_width : (m : RawMap) (got : List Column) (out : List ℕ) (s : ℕ) (i : Interval) → IsChecked m →
    width_of (known_rows m got out s i) ≡ i.end - i.first
known_width m got out s i ch =
    width_is (i.end - i.first) (known_rows m got out s i)
    (omega (arith, length-map-range_with_len (known_in m got out s i) 0 (group_width m), ch.some_data))
    (known_even m got out s i 0 (group_width m))

-- they can be decoded
pub known_are_rows : (m : RawMap) (got : List Column) (out : List ℕ) (s : ℕ) (i : Interval) → IsChecked m →
    AreRows (code_of m) (known_rows m got out s i)
known_are_rows m got out s i ch =
    let long = length-map-range_with_len (known_in m got out s i) 0 (group_width m) in
    record {
      some = omega (arith, long, code_count m, ch.some_data);
      most = omega (arith, long, ch.narrow);
      even = λ k d lt. known_even m got out s i 0 (group_width m) k d lt ∙ sym (known_width m got out s i ch);
    }

-- ---- lost units

rising_at : (low end : ℕ) (xs : List ℕ) (k : ℕ) → RisesFrom low end xs → k + 1 < length xs → get_or xs k 0 < get_or xs (k + 1) 0
rising_at low end [] k r lt = absurd (omega (arith, lt))
rising_at low end (x ∷ []) k r lt = absurd (omega (arith, lt))
rising_at low end (x ∷ y ∷ ys) zero r lt = omega (arith, r.2.0)
rising_at low end (x ∷ y ∷ ys) (suc k) r lt = let e : suc k + 1 ≡ suc (k + 1) = omega arith in
    rw e (rising_at (x + 1) end (y ∷ ys) k r.2 (omega (arith, lt)))

below_at : (low end : ℕ) (xs : List ℕ) (k d : ℕ) → RisesFrom low end xs → k < length xs → get_or xs k d < end
below_at low end [] k d r lt = absurd (omega (arith, lt))
below_at low end (x ∷ xs) zero d r lt = r.1
below_at low end (x ∷ xs) (suc k) d r lt = below_at (x + 1) end xs k d r.2 (omega (arith, lt))

pub lost_positions : (m : RawMap) (got : List Column) (out : List ℕ) (s : ℕ) (i : Interval) →
    ArePositions (length (known_rows m got out s i)) (lost_from m out s 0 (group_width m))
lost_positions m got out s i =
    let long : length (known_rows m got out s i) ≡ 0 + group_width m =
    length-map-range_with_len (known_in m got out s i) 0 (group_width m) ∙ omega arith in
    let rises = lost_rises m out s 0 (group_width m) in
    record {
      rising = λ k lt. rising_at 0 (0 + group_width m) _ k rises lt;
      below = rw long (λ k d lt. below_at 0 (0 + group_width m) _ k d rises lt);
    }

pub can_decode : (m : RawMap) (lost : List ℕ) → length lost ≤ parities m → decoding (code_of m) lost ≡ Ok tt
can_decode m lost few = rw (le-ltb (count_of (code_of m)) (length lost) (omega (arith, few, code_count m))) refl

-- ---- decoded rows

pub decoded_columns : (m : RawMap) (got : List Column) (out : List ℕ) (s : ℕ) (i : Interval) (rows : List (List ℕ)) →
    IsChecked m → map length rows ≡ map length (known_rows m got out s i) →
    ((k : ℕ) → k < width_of (known_rows m got out s i)
    → column rows k ≡ decoded (length (known_rows m got out s i) - count_of (code_of m)) (lost_from m out s 0 (group_width m))
    (column (known_rows m got out s i) k)) →
    HasColumns (group_width m) i (decoded_at m got out s) rows
unfolding decoded_at
decoded_columns m got out s i rows ch shape exact =
    let long = length-map-range_with_len (known_in m got out s i) 0 (group_width m) in
    let units : length (known_rows m got out s i) - count_of (code_of m) ≡ data_units m = omega (arith, long, code_count m) in
    let count : length rows ≡ length (known_rows m got out s i) =
    sym (length-map rows length) ∙ ap length shape ∙ length-map (known_rows m got out s i) length in
    record {
      long = count ∙ long;
      even = λ k d lt. row_long rows (known_rows m got out s i) k d shape (omega (arith, lt)) (omega (arith, lt, count))
          ∙ known_even m got out s i 0 (group_width m) k d (omega (arith, lt, count));
      each = λ k lt.
          exact k (rw (known_width m got out s i ch) lt)
          ∙ ap (λ (u : ℕ). decoded u (lost_from m out s 0 (group_width m)) (column (known_rows m got out s i) k)) units
          ∙ ap (decoded (data_units m) (lost_from m out s 0 (group_width m))) (known_column m got out s k i 0 (group_width m) lt);
    }
  where
    row_long : (xs ys : List (List ℕ)) (k : ℕ) (d : List ℕ) → map length xs ≡ map length ys → k < length xs → k < length ys →
        length (get_or xs k d) ≡ length (get_or ys k d)
    row_long xs ys k d e lt lt2 =
        sym (get_or-map length xs k d 0 lt) ∙ ap (λ (ls : List ℕ). get_or ls k 0) e ∙ get_or-map length ys k d 0 lt2

-- ---- one row

pub row_is : (n : ℕ) (i : Interval) (f : ℕ → List ℕ) (rows : List (List ℕ)) (c : ℕ) (row : List ℕ) → HasColumns n i f rows →
    c < n → slice_get rows c ≡ Some row →
    row ≡ map (λ (b : ℕ). get_or (f b) c 0) (range_with_len i.first (i.end - i.first))
row_is n i f rows c row h lt is =
    let there : get_or rows c [] ≡ row = get_or_from_slice_get rows c row [] is in
    let here : c < length rows = omega (arith, lt, h.long) in
    let long : length row ≡ i.end - i.first = ap length (sym there) ∙ h.even c [] here in
    same_number_lists row _ (long ∙ sym (length-map-range_with_len (λ (b : ℕ). get_or (f b) c 0) i.first (i.end - i.first)))
    (λ k k_lt.
    let low : k < i.end - i.first = omega (arith, k_lt, long) in
    ap (λ (xs : List ℕ). get_or xs k 0) (sym there) ∙ sym (get_or-map (λ (xs : List ℕ). get_or xs k 0) rows c [] 0 here)
    ∙ ap (λ (xs : List ℕ). get_or xs c 0) (h.each k low)
    ∙ sym (get_or-map-range_with_len (λ (b : ℕ). get_or (f b) c 0) i.first (i.end - i.first) k (i.first + k) 0 low refl))

-- a unit that is out is answered from what was decoded, one that isn't from what was got
pub answered_out : (m : RawMap) (got : List Column) (out : List ℕ) (s c : ℕ) (i : Interval) →
    is_out m out (position_of m s c) ≡ true →
    map (λ (b : ℕ). get_or (decoded_at m got out s b) c 0)
    (range_with_len i.first (i.end - i.first)) ≡ answered_in m got out s c i
unfolding answer_in
answered_out m got out s c i gone =
    same_range (λ (b : ℕ). get_or (decoded_at m got out s b) c 0) (answer_in m got out s c) i.first (i.end - i.first)
    (λ b le lt. rw gone refl)

pub answered_got : (m : RawMap) (got : List Column) (out : List ℕ) (s c : ℕ) (i : Interval) →
    is_out m out (position_of m s c) ≡ false → got_in m got s c i ≡ answered_in m got out s c i
unfolding answer_in
answered_got m got out s c i there =
    shifted (byte_at got (position_of m s c)) (row_of m s * m.unit) i.first (i.end - i.first)
    ∙ same_range (λ (b : ℕ). byte_at got (position_of m s c) (row_of m s * m.unit + b)) (answer_in m got out s c) i.first
    (i.end - i.first) (λ b le lt. rw there refl)
