-- Rows that are decoded.
use Rattle.std.proofs.Common.{◌≡◌, ℕ, ◌+◌, ◌-◌, ◌<◌, ◌≤◌, List, [], length, get_or, map, refl, sym, ap, ◌∙◌, arith}
use Rattle.std.specs.Prelude.{Result, Ok, Err, slice_get, Some, None, is_none, IfOk}
use Rattle.std.specs.List.{All, range_with_len}
use Rattle.std.specs.List.Sorted.{IsStrictlyIncreasing}
use Rattle.std.proofs.lemmas.Bool.{le-ltb}
use Rattle.std.proofs.lemmas.List.Elements.{All-filter}
use Rattle.std.proofs.lemmas.List.Kept.{IsStrictlyIncreasing-filter}
use Rattle.std.proofs.lemmas.List.FromFn.{length-range_with_len, get_or-range_with_len, length-map-range_with_len, get_or-map-range_with_len}
use Rattle.std.proofs.lemmas.Option.{get_or_from_slice_get}
use Rattle.osd_lists.specs.declared.memory.Memory.{Memory}
use Rattle.data_map.specs.declared.check.RawMap.{RawMap}
use Rattle.data_map.specs.Check.{IsChecked}
use Rattle.data_map.specs.Striping.{group_width, data_units, parities, position_of}
use Rattle.parity_code.specs.Parity.{column}
use Rattle.parity_code.specs.Codeword.{count_of, width_of}
use Rattle.parity_code.specs.Decoding.{decoded, decoding, ArePositions}
use Rattle.server_rules.specs.declared.files.Component.{Component}
use Rattle.server_rules.specs.declared.jobs.Heard.{Heard}
use Rattle.server_rules.specs.Maps.{code_of}
use Rattle.server_rules.specs.Standing.{replica}
use Rattle.server_rules.specs.declared.files.Kept.{Kept}
use Rattle.server_rules.specs.declared.jobs.Piece.{Piece}
use Rattle.server_rules.specs.declared.jobs.Target.{Target}
use Rattle.server_rules.specs.Rebuild.{position_for, made}
use Rattle.server_rules.specs.Columns.{unit_rows, unit_with}
use Rattle.server_rules.specs.Decoding.{lost_units, restored}
use Rattle.stripe_repair.specs.Restored.{restored_rows}
use Rattle.stripe_repair.proofs.CodewordLaws.{code_count, rows_count, rows_by_columns, same_shape, width_is}

range_rises : (a n : ℕ) → IsStrictlyIncreasing (range_with_len a n)
range_rises a n = λ k lt.
    let low : k + 1 < n = rw (length-range_with_len a n) at lt in
    rw (get_or-range_with_len a n k 0 (omega (arith, low)), get_or-range_with_len a n (k + 1) 0 low) (omega arith)

range_below : (n : ℕ) → All (λ x. x < n) (range_with_len 0 n)
range_below n = λ k d lt.
    let low : k < n = rw (length-range_with_len 0 n) at lt in
    rw (get_or-range_with_len 0 n k d low) (omega (arith, low))

pub lost_are : (m : RawMap) (cs : List Component) (s : ℕ) (heard : List Heard) (count : ℕ) →
    ArePositions (length (unit_rows m cs s heard count)) (lost_units m cs s)
unfolding lost_units
lost_are m cs s heard count = rw (rows_count m cs s heard count) (record {
  rising = IsStrictlyIncreasing-filter (λ c. is_none (replica m cs (position_of m s c))) (range_with_len 0 (group_width m))
      (range_rises 0 (group_width m));
  below = All-filter (λ c. is_none (replica m cs (position_of m s c))) (λ x. x < group_width m) (range_with_len 0 (group_width m))
      (range_below (group_width m));
})

pub can_decode : (m : RawMap) (lost : List ℕ) → length lost ≤ parities m → decoding (code_of m) lost ≡ Ok tt
can_decode m lost few = rw (le-ltb (count_of (code_of m)) (length lost) (omega (arith, few, code_count m))) refl

-- the rows that a decoder made
pub decoded_are : (m : RawMap) (cs : List Component) (s : ℕ) (heard : List Heard) (count : ℕ) (rows : List (List ℕ)) →
    IsChecked m →
    map length rows ≡ map length (unit_rows m cs s heard count) →
    ((k : ℕ) → k < width_of (unit_rows m cs s heard count)
    → column rows k ≡ decoded (length (unit_rows m cs s heard count) - count_of (code_of m)) (lost_units m cs s)
    (column (unit_rows m cs s heard count) k)) →
    rows ≡ restored_rows m cs s heard count
unfolding restored
decoded_are m cs s heard count rows ch shape exact =
    let old = unit_rows m cs s heard count in
    let alike = same_shape m cs s heard count rows shape in
    let units : length old - count_of (code_of m) ≡ data_units m = omega (arith, rows_count m cs s heard count, code_count m) in
    rows_by_columns (group_width m) count (λ k. decoded (data_units m) (lost_units m cs s) (column old k)) rows alike.0 alike.1
    (λ k lt. exact k (rw (width_is m cs s heard count ch) lt)
    ∙ ap (λ (u : ℕ). decoded u (lost_units m cs s) (column old k)) units)

-- ---- one row

pub restored_count : (m : RawMap) (cs : List Component) (s : ℕ) (heard : List Heard) (count : ℕ) →
    length (restored_rows m cs s heard count) ≡ group_width m
restored_count m cs s heard count =
    length-map-range_with_len (λ c. restored m (lost_units m cs s) (unit_rows m cs s heard count) c count) 0 (group_width m)

pub restored_is : (m : RawMap) (cs : List Component) (s : ℕ) (heard : List Heard) (count c : ℕ) (row : List ℕ) →
    c < group_width m → slice_get (restored_rows m cs s heard count) c ≡ Some row →
    row ≡ restored m (lost_units m cs s) (unit_rows m cs s heard count) c count
restored_is m cs s heard count c row lt e =
    sym (get_or_from_slice_get (restored_rows m cs s heard count) c row [] e)
    ∙ get_or-map-range_with_len (λ k. restored m (lost_units m cs s) (unit_rows m cs s heard count) k count) 0
    (group_width m) c c [] lt (omega arith)

pub restored_long : (m : RawMap) (lost : List ℕ) (rows : List (List ℕ)) (c count : ℕ) →
    length (restored m lost rows c count) ≡ count
unfolding restored
restored_long m lost rows c count =
    length-map-range_with_len (λ j. get_or (decoded (data_units m) lost (column rows j)) c 0) 0 count

-- the length of a row that may have been made
pub long_of : (r : Result (List ℕ) Memory) (x : List ℕ) (n : ℕ) → IfOk r (λ b. b ≡ x) → length x ≡ n → IfOk r (λ b. length b ≡ n)
long_of (Ok b) x n e l = ap length e ∙ l
long_of (Err e) x n u l = tt

-- the bytes of a piece whose position has no present replica
pub made_none : (f : Kept) (t : Target) (p : Piece) (heard : List Heard) → replica f.map f.components (position_for f t) ≡ None →
    made f t p heard ≡ restored f.map (lost_units f.map f.components p.stripe)
    (unit_rows f.map f.components p.stripe heard p.count) (unit_with f.map p.stripe t.component) p.count
unfolding made
made_none f t p heard e = rw e refl
