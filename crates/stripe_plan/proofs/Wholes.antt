-- A stripe that the range holds whole.
use Rattle.std.proofs.Common.{◌≡◌, ℕ, ◌+◌, ◌-◌, ◌*◌, ◌<◌, ◌≤◌, true, List, [], ◌∷◌, length, get_or, take, map, set, refl, sym, ap, ◌∙◌, arith, inl, inr}
use Rattle.std.specs.Prelude.{min, max, replicate, slice_get, Option, unwrap_or}
use Rattle.std.specs.List.{All}
use Rattle.std.proofs.lemmas.Bool.{cases_lt, le-leb}
use Rattle.std.proofs.lemmas.List.{get_or-take, get_or-set_other, length-take-le, get_or-replicate, length-replicate}
use Rattle.std.proofs.lemmas.List.FromFn.{length-map-range_with_len, get_or-map-range_with_len}
use Rattle.std.proofs.lemmas.Grind.{same_number_lists}
use Rattle.std.proofs.lemmas.Option.{unwrap_or-slice_get}
use Rattle.std.proofs.Math.Nat.{mul-le-mul_right}
use Rattle.data_map.specs.declared.check.RawMap.{RawMap}
use Rattle.data_map.specs.Check.{IsChecked}
use Rattle.data_map.specs.Striping.{stripe_length, group_width, data_units, parities, turned}
use Rattle.data_map.specs.Inverse.{unit_in}
use Rattle.data_map.proofs.Striping.{turned_again}
use Rattle.parity_code.specs.Parity.{column}
use Rattle.parity_code.specs.Codeword.{count_of, codeword, width_of}
use Rattle.parity_code.proofs.ColumnLaws.{cell, length_column, same_count}
use Rattle.stripe_plan.specs.declared.plan.Span.{Span}
use Rattle.stripe_plan.specs.declared.plan.Interval.{Interval}
use Rattle.stripe_plan.specs.declared.plan.Column.{Column}
use Rattle.stripe_plan.specs.Touched.{end_of, unit_start, own, low as low_of, high, columns, columns_between, whole}
use Rattle.stripe_plan.specs.Asks.{changed}
use Rattle.stripe_plan.specs.Parity.{overlaid, parity_of}
use Rattle.stripe_plan.specs.Words.{code_of, new_at, news_at, parity_at, word_at}
use Rattle.stripe_plan.specs.Encoded.{all_columns, new_in, words_in, place_column, HasParity, IsNewRow, NewRows, AreWords}
use Rattle.stripe_plan.specs.Plans.{written_place}
use Rattle.stripe_plan.proofs.StripeRows.{same_range}
use Rattle.stripe_plan.proofs.Columning.{code_count}
use Rattle.stripe_plan.proofs.WriteLaws.{whole_means, news_long}
use Rattle.stripe_plan.proofs.Encodings.{overlaid_long, overlaid_at, parity_coded}
use Rattle.stripe_plan.proofs.Parities.{any_default, by_whole, has_same, own_one, changed_data, changed_all, word_data, word_parity}

-- ---- its columns

-- all columns of each unit are the range's
pub own_all : (m : RawMap) (r : Span) (s c : ℕ) → whole m r s ≡ true → c < data_units m → own m r s c ≡ all_columns m
unfolding own
own_all m r s c all lt =
    let w = whole_means m r s all in
    let next : c + 1 ≤ data_units m = omega (arith, lt) in
    let more : (c + 1) * m.unit ≤ stripe_length m = mul-le-mul_right m.unit next in
    let unit : (c + 1) * m.unit ≡ c * m.unit + m.unit = omega arith in
    let stripe : (s + 1) * stripe_length m ≡ s * stripe_length m + stripe_length m = omega arith in
    let first : max r.offset (unit_start m s c) - unit_start m s c ≡ 0 = omega (arith, w.0) in
    let end : min (end_of r) (unit_start m s c + m.unit) - unit_start m s c ≡ m.unit = omega (arith, w.1, more, unit, stripe) in
    rw (first, end) refl

pub columns_all : (m : RawMap) (r : Span) (s : ℕ) → IsChecked m → whole m r s ≡ true → columns m r s ≡ all_columns m ∷ []
unfolding columns columns_between
columns_all m r s ch all =
    let w = whole_means m r s all in
    let one : 1 ≤ data_units m = omega (arith, ch.some_data) in
    let unit : 1 * m.unit ≤ stripe_length m = mul-le-mul_right m.unit one in
    let stripe : (s + 1) * stripe_length m ≡ s * stripe_length m + stripe_length m = omega arith in
    let wide : m.unit ≤ high m r s - low_of m r s = omega (arith, w.0, w.1, unit, stripe) in
    rw (le-leb m.unit (high m r s - low_of m r s) wide) refl

changed_whole : (m : RawMap) (r : Span) (s c : ℕ) → IsChecked m → whole m r s ≡ true → changed m r s c ≡ all_columns m ∷ []
changed_whole m r s c ch all = elim (cases_lt c (data_units m)) [
  | inl low ↦ changed_data m r s c low ∙ own_one m r s c (all_columns m) low (sym (own_all m r s c all low)) ch.some_unit
  | inr past ↦ changed_all m r s c past ∙ columns_all m r s ch all
]

-- so a place's column is its unit's whole row
pub whole_place : (m : RawMap) (r : Span) (bytes : List ℕ) (got : List Column) (out : List ℕ) (s i : ℕ) (row : List ℕ) →
    IsChecked m → whole m r s ≡ true →
    row ≡ words_in m r bytes got out s (unit_in m s i) (all_columns m) →
    place_column m out s i row ≡ written_place m r bytes got out s i
unfolding written_place
whole_place m r bytes got out s i row ch all is = rw (is, changed_whole m r s (unit_in m s i) ch all) refl

-- ---- its rows

row_data : (m : RawMap) (r : Span) (bytes : List ℕ) (s : ℕ) (rows : List (List ℕ)) (k : ℕ) →
    NewRows m r bytes s (group_width m) rows → k < m.unit →
    take (data_units m) (column rows k) ≡ overlaid (news_at m r bytes s k) (replicate (data_units m) 0)
row_data m r bytes s rows k had lt =
    let zeros : List ℕ = replicate (data_units m) 0 in
    let cut : length (take (data_units m) (column rows k)) ≡ data_units m =
    length-take-le (data_units m) (column rows k) (omega (arith, length_column rows k, had.count)) in
    let none : length zeros ≡ data_units m = length-replicate (data_units m) 0 in
    same_number_lists _ _
    (cut ∙ sym (overlaid_long (news_at m r bytes s k) zeros (news_long m r bytes s k 0 (data_units m) ∙ sym none) ∙ none))
    (λ c c_lt.
    let low : c < data_units m = omega (arith, c_lt, cut) in
    let here : c < length rows = omega (arith, low, had.count) in
    let z : 0 + c ≡ c = omega arith in
    let zero : get_or zeros c 0 ≡ 0 = get_or-replicate (data_units m) c 0 0 low in
    get_or-take (data_units m) (column rows k) c 0 low ∙ cell rows c k [] here
    ∙ ap (λ (xs : List ℕ). get_or xs k 0) ((had.each c (omega (arith, low))).fresh low)
    ∙ get_or-map-range_with_len (λ (b : ℕ). unwrap_or (new_at m r bytes s b c) 0) 0 (m.unit - 0) k k 0 (omega (arith, lt))
    (omega arith)
    ∙ sym (overlaid_at m r bytes s k 0 (data_units m) zeros c low none ∙ rw (z, zero) refl))

pub row_new : (m : RawMap) (r : Span) (bytes : List ℕ) (s c : ℕ) (i : Interval) (row : List ℕ) → whole m r s ≡ true →
    c < data_units m → i ≡ own m r s c → row ≡ new_in m r bytes s c i → IsNewRow m r bytes s c row
row_new m r bytes s c i row all low is e =
    let here : row ≡ new_in m r bytes s c (all_columns m) = e ∙ ap (new_in m r bytes s c) (is ∙ own_all m r s c all low) in
    record {
      long =
          ap length here ∙ length-map-range_with_len (λ (b : ℕ). unwrap_or (new_at m r bytes s b c) 0) 0 (m.unit - 0)
          ∙ omega arith;
      fresh = λ lt. here;
    }

pub even_rows : (m : RawMap) (r : Span) (bytes : List ℕ) (s : ℕ) (rows : List (List ℕ)) →
    NewRows m r bytes s (group_width m) rows → All (λ row. length row ≡ m.unit - 0) rows
even_rows m r bytes s rows had =
    λ k d lt. ap length (any_default rows k d [] lt) ∙ (had.each k (omega (arith, lt, had.count))).long ∙ omega arith

-- encoded they are what the write puts into each unit
pub whole_words : (m : RawMap) (r : Span) (bytes : List ℕ) (s : ℕ) (old new : List (List ℕ)) (got : List Column) (out : List ℕ) →
    IsChecked m → whole m r s ≡ true →
    NewRows m r bytes s (group_width m) old → map length new ≡ map length old →
    ((j : ℕ) → j < length old - count_of (code_of m) → slice_get new j ≡ slice_get old j) →
    ((k : ℕ) → k < width_of old → column new k ≡ codeword (code_of m) (take (length old - count_of (code_of m)) (column old k))) →
    AreWords m r bytes got out s new
whole_words m r bytes s old new got out ch all had shape kept coded =
    let count : length new ≡ group_width m = same_count old new shape ∙ had.count in
    let parity : HasParity (parities m) (all_columns m) (parity_at m r bytes got out s) new =
    has_same (parities m) (all_columns m)
    (λ (b row : ℕ). parity_of row (overlaid (news_at m r bytes s b) (replicate (data_units m) 0)))
    (parity_at m r bytes got out s) new (λ b row. by_whole m r bytes got out s b row all)
    (parity_coded m (all_columns m)
    (λ (b : ℕ). overlaid (news_at m r bytes s b) (replicate (data_units m) 0)) old new ch had.count
    (even_rows m r bytes s old had) (λ k lt. let z : 0 + k ≡ k = omega arith in
    rw z (row_data m r bytes s old k had (omega (arith, lt)))) shape coded) in
    record {
      count = count;
      each = λ c lt. elim (cases_lt c (data_units m)) [
        | inl low ↦
            get_same new old c (kept c (omega (arith, low, had.count, code_count m))) ∙ (had.each c lt).fresh low
            ∙ same_range (λ (b : ℕ). unwrap_or (new_at m r bytes s b c) 0) (λ (b : ℕ). word_at m r bytes got out s b c) 0
            (m.unit - 0) (λ b le l. sym (word_data m r bytes got out s b c low))
        | inr past ↦
            let at : length new - parities m + (c - data_units m) ≡ c = omega (arith, count, past, lt) in
            (rw at at (parity.each (c - data_units m) (omega (arith, past, lt))))
            ∙ same_range (λ (b : ℕ). parity_at m r bytes got out s b (c - data_units m))
            (λ (b : ℕ). word_at m r bytes got out s b c) 0 (m.unit - 0)
            (λ b le l. sym (word_parity m r bytes got out s b c past))
      ];
    }
  where
    get_same : (xs ys : List (List ℕ)) (j : ℕ) → slice_get xs j ≡ slice_get ys j → get_or xs j [] ≡ get_or ys j []
    get_same xs ys j e =
        sym (unwrap_or-slice_get xs j []) ∙ ap (λ (o : Option (List ℕ)). unwrap_or o []) e ∙ unwrap_or-slice_get ys j []

-- ---- rows that are moved out place by place

-- the rows of the places from i on are as they were
abbrev pub Untaken : (m : RawMap) (s i : ℕ) (f : ℕ → List ℕ) (rows : List (List ℕ)) → Type 0
Untaken m s i f rows = (j : ℕ) → i ≤ j → j < group_width m → get_or rows (unit_in m s j) [] ≡ f (unit_in m s j)

pub taken_one : (m : RawMap) (s i : ℕ) (f : ℕ → List ℕ) (rows : List (List ℕ)) → i < group_width m → Untaken m s i f rows →
    Untaken m s (i + 1) f (set rows (unit_in m s i) [])
taken_one m s i f rows lt had = λ j le j_lt.
    let other : (unit_in m s j ≡ unit_in m s i) → ⊥ =
    λ e. absurd (omega (arith, le, sym (turned_again m s j j_lt) ∙ ap (turned m s) e ∙ turned_again m s i lt)) in
    get_or-set_other rows (unit_in m s i) (unit_in m s j) [] [] other ∙ had j (omega (arith, le)) j_lt
