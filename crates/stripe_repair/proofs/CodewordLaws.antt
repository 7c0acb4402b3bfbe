-- The rows of a piece, and those that come of them by their columns.
use Rattle.std.proofs.Common.{◌≡◌, ℕ, ◌-◌, ◌<◌, List, [], ◌∷◌, Option, Some, None, length, get_or, take, map, refl, sym, ap, ◌∙◌, arith, inl, inr, eq-eqb, ne_eqb}
use Rattle.std.specs.Prelude.{replicate, slice_get}
use Rattle.std.specs.List.{All, range_with_len}
use Rattle.std.proofs.lemmas.Bool.{cases_eq}
use Rattle.std.proofs.lemmas.List.{length-append, length-take, length-replicate, same_lists}
use Rattle.std.proofs.lemmas.List.FromFn.{length-map-range_with_len, get_or-map-range_with_len}
use Rattle.std.proofs.lemmas.Grind.{same_number_lists}
use Rattle.std.proofs.lemmas.Option.{get_or_from_slice_get}
use Rattle.data_map.specs.Check.{IsChecked}
use Rattle.data_map.specs.Striping.{group_width, data_units, parities, position_of}
use Rattle.parity_code.specs.Parity.{column}
use Rattle.parity_code.specs.Codeword.{count_of, codeword, width_of, AreRows}
use Rattle.parity_code.proofs.ColumnLaws.{cell, same_count, same_row, take_column}
use Rattle.parity_code.proofs.StripeLaws.{rows_of_width}
use Rattle.data_map.specs.declared.check.RawMap.{RawMap}
use Rattle.server_rules.specs.declared.files.Component.{Component}
use Rattle.server_rules.specs.declared.jobs.Heard.{Heard}
use Rattle.server_rules.specs.Maps.{code_of}
use Rattle.server_rules.specs.Standing.{replica}
use Rattle.server_rules.specs.Columns.{filled, row_from, row_at, unit_rows, wanted}
use Rattle.stripe_repair.specs.Pieces.{wanted_rows}

-- ---- the code

pub code_count : (m : RawMap) → count_of (code_of m) ≡ parities m
code_count m = elim (cases_eq m.algorithm 1) [
  | inl one ↦ rw (eq-eqb m.algorithm 1 one) refl
  | inr more ↦ rw (ne_eqb m.algorithm 1 more) (elim (cases_eq m.algorithm 4) [
    | inl four ↦ rw (eq-eqb m.algorithm 4 four) refl
    | inr other ↦ rw (ne_eqb m.algorithm 4 other) refl
  ])
]

-- ---- the rows that were read

filled_long : (bytes : List ℕ) (count : ℕ) → length (filled bytes count) ≡ count
filled_long bytes count =
    let zeros : length {A = ℕ} (replicate (count - length bytes) 0) ≡ count - length bytes =
    length-replicate (count - length bytes) 0 in
    length-append (take count bytes) (replicate (count - length bytes) 0) ∙ omega (arith, length-take count bytes, zeros)

pub row_long : (hs : List Heard) (k count : ℕ) → length (row_from hs k count) ≡ count
unfolding row_from
row_long [] k count = length-replicate count 0
row_long (h ∷ hs) k count = elim (cases_eq h.component k) [
  | inl e ↦ rw (eq-eqb h.component k e) (filled_long h.payload count)
  | inr n ↦ rw (ne_eqb h.component k n) (row_long hs k count)
]

row_at_long : (hs : List Heard) (k : Option ℕ) (count : ℕ) → length (row_at hs k count) ≡ count
row_at_long hs None count = length-replicate count 0
row_at_long hs (Some k) count = row_long hs k count

pub rows_count : (m : RawMap) (cs : List Component) (s : ℕ) (hs : List Heard) (count : ℕ) →
    length (unit_rows m cs s hs count) ≡ group_width m
unfolding unit_rows
rows_count m cs s hs count = length-map-range_with_len (λ c. row_at hs (replica m cs (position_of m s c)) count) 0 (group_width m)

pub rows_even : (m : RawMap) (cs : List Component) (s : ℕ) (hs : List Heard) (count : ℕ) →
    All (λ row. length row ≡ count) (unit_rows m cs s hs count)
unfolding unit_rows
rows_even m cs s hs count = λ k d lt.
    let low : k < group_width m = omega (arith, lt, rows_count m cs s hs count) in
    ap length (get_or-map-range_with_len (λ c. row_at hs (replica m cs (position_of m s c)) count) 0 (group_width m) k k d low
    (omega arith))
    ∙ row_at_long hs (replica m cs (position_of m s k)) count

pub are_rows : (m : RawMap) (cs : List Component) (s : ℕ) (hs : List Heard) (count : ℕ) → IsChecked m →
    AreRows (code_of m) (unit_rows m cs s hs count)
are_rows m cs s hs count ch =
    let long = rows_count m cs s hs count in
    record {
      some = omega (arith, long, code_count m, ch.some_data);
      most = omega (arith, long, ch.narrow);
      even = rows_of_width count (unit_rows m cs s hs count) (omega (arith, long, ch.some_data)) (rows_even m cs s hs count);
    }

pub width_is : (m : RawMap) (cs : List Component) (s : ℕ) (hs : List Heard) (count : ℕ) → IsChecked m →
    width_of (unit_rows m cs s hs count) ≡ count
width_is m cs s hs count ch =
    let long = rows_count m cs s hs count in
    sym ((are_rows m cs s hs count ch).even 0 [] (omega (arith, long, ch.some_data)))
    ∙ rows_even m cs s hs count 0 [] (omega (arith, long, ch.some_data))

-- ---- rows by their columns

-- a row of which each column is known
pub row_by_columns : (n count : ℕ) (f : ℕ → List ℕ) (rows : List (List ℕ)) (c : ℕ) → length rows ≡ n →
    All (λ row. length row ≡ count) rows →
    ((k : ℕ) → k < count → column rows k ≡ f k) → c < n → (d : List ℕ) →
    get_or rows c d ≡ map (λ j. get_or (f j) c 0) (range_with_len 0 count)
row_by_columns n count f rows c long even each lt d =
    let inside : c < length rows = omega (arith, lt, long) in
    let wide : length (get_or rows c d) ≡ count = even c d inside in
    same_number_lists (get_or rows c d) (map (λ j. get_or (f j) c 0) (range_with_len 0 count))
    (wide ∙ sym (length-map-range_with_len (λ j. get_or (f j) c 0) 0 count))
    (λ k l.
    let low : k < count = omega (arith, l, wide) in
    sym (cell rows c k d inside) ∙ ap (λ (col : List ℕ). get_or col c 0) (each k low)
    ∙ sym (get_or-map-range_with_len (λ j. get_or (f j) c 0) 0 count k k 0 low (omega arith)))

-- all of them
pub rows_by_columns : (n count : ℕ) (f : ℕ → List ℕ) (rows : List (List ℕ)) → length rows ≡ n →
    All (λ row. length row ≡ count) rows →
    ((k : ℕ) → k < count → column rows k ≡ f k) →
    rows ≡ map (λ c. map (λ j. get_or (f j) c 0) (range_with_len 0 count)) (range_with_len 0 n)
rows_by_columns n count f rows long even each =
    same_lists rows (map (λ c. map (λ j. get_or (f j) c 0) (range_with_len 0 count)) (range_with_len 0 n))
    (long ∙ sym (length-map-range_with_len (λ c. map (λ j. get_or (f j) c 0) (range_with_len 0 count)) 0 n))
    (λ c d l.
    let low : c < n = omega (arith, l, long) in
    row_by_columns n count f rows c long even each low d
    ∙ sym (get_or-map-range_with_len (λ c. map (λ j. get_or (f j) c 0) (range_with_len 0 count)) 0 n c c d low (omega arith)))

-- a stripe of the same shape
pub same_shape : (m : RawMap) (cs : List Component) (s : ℕ) (hs : List Heard) (count : ℕ) (rows : List (List ℕ)) →
    map length rows ≡ map length (unit_rows m cs s hs count) →
    (length rows ≡ group_width m) × All (λ row. length row ≡ count) rows
same_shape m cs s hs count rows shape =
    let long : length rows ≡ length (unit_rows m cs s hs count) = same_count (unit_rows m cs s hs count) rows shape in (
      long ∙ rows_count m cs s hs count,
      λ k d lt. same_row (unit_rows m cs s hs count) rows k d shape ∙ rows_even m cs s hs count k d (omega (arith, lt, long)),
    )

-- the rows that an encoder made
pub encoded_are : (m : RawMap) (cs : List Component) (s : ℕ) (hs : List Heard) (count : ℕ) (rows : List (List ℕ)) → IsChecked m →
    map length rows ≡ map length (unit_rows m cs s hs count) →
    ((k : ℕ) → k < width_of (unit_rows m cs s hs count) →
    column rows k ≡ codeword (code_of m)
    (take (length (unit_rows m cs s hs count) - count_of (code_of m)) (column (unit_rows m cs s hs count) k))) →
    rows ≡ wanted_rows m (unit_rows m cs s hs count) count
unfolding wanted
encoded_are m cs s hs count rows ch shape coded =
    let old = unit_rows m cs s hs count in
    let alike = same_shape m cs s hs count rows shape in
    let units : length old - count_of (code_of m) ≡ data_units m = omega (arith, rows_count m cs s hs count, code_count m) in
    rows_by_columns (group_width m) count (λ k. codeword (code_of m) (column (take (data_units m) old) k)) rows alike.0 alike.1
    (λ k lt.
    coded k (rw (width_is m cs s hs count ch) lt) ∙ ap (λ (u : ℕ). codeword (code_of m) (take u (column old k))) units
    ∙ ap (codeword (code_of m)) (sym (take_column (data_units m) old k)))

-- one of the wanted rows
pub wanted_is : (m : RawMap) (rows : List (List ℕ)) (count c : ℕ) (row : List ℕ) → c < group_width m →
    slice_get (wanted_rows m rows count) c ≡ Some row → row ≡ wanted m rows c count
wanted_is m rows count c row lt e =
    sym (get_or_from_slice_get (wanted_rows m rows count) c row [] e)
    ∙ get_or-map-range_with_len (λ k. wanted m rows k count) 0 (group_width m) c c [] lt (omega arith)

pub wanted_long : (m : RawMap) (rows : List (List ℕ)) (c count : ℕ) → length (wanted m rows c count) ≡ count
unfolding wanted
wanted_long m rows c count =
    length-map-range_with_len (λ j. get_or (codeword (code_of m) (column (take (data_units m) rows) j)) c 0) 0 count

pub wanted_count : (m : RawMap) (rows : List (List ℕ)) (count : ℕ) → length (wanted_rows m rows count) ≡ group_width m
wanted_count m rows count = length-map-range_with_len (λ c. wanted m rows c count) 0 (group_width m)
