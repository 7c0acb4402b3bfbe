-- Stripes seen by their columns.
use Rattle.std.proofs.Common.{◌≡◌, ℕ, ◌+◌, ◌-◌, ◌<◌, ◌≤◌, List, [], ◌∷◌, length, get_or, take, drop, map, set, Some, sym, ap, ◌∙◌, arith, inl, inr}
use Rattle.std.specs.Prelude.{slice_get}
use Rattle.std.specs.List.{All, refill}
use Rattle.std.proofs.lemmas.Bool.{cases_lt}
use Rattle.std.proofs.lemmas.List.{map-set, get_or-map, length-map, take-map, take-append-le, take_all}
use Rattle.std.proofs.lemmas.Option.{slice_get-get_or, slice_get_past}
use Rattle.std.proofs.lemmas.Grind.{same_number_lists}
use Rattle.std.proofs.Math.ListN.{get_or-map as length_at}
use Rattle.std.proofs.Math.Seq.{map-set_same}
use Rattle.parity_code.specs.Parity.{column}
use Rattle.parity_code.specs.Codeword.{width_of}
use Rattle.parity_code.specs.Columns.{Stored, Become}

pub refill_same : (old new : List ℕ) → length new ≡ length old → refill (length old) old new ≡ new
refill_same old new e =
    take-append-le (length old) new (drop (length new) old) (omega arith) ∙ take_all (length old) new (omega arith)

-- one byte of a column
pub cell : (rows : List (List ℕ)) (j k : ℕ) (d : List ℕ) → j < length rows →
    get_or (column rows k) j 0 ≡ get_or (get_or rows j d) k 0
cell rows j k d lt = get_or-map (λ (row : List ℕ). get_or row k 0) rows j d 0 lt

pub column_set : (rows : List (List ℕ)) (j k : ℕ) (row : List ℕ) →
    column (set rows j row) k ≡ set (column rows k) j (get_or row k 0)
column_set rows j k row = map-set (λ (r : List ℕ). get_or r k 0) rows j row

column_kept : (rows : List (List ℕ)) (j k : ℕ) (row : List ℕ) → get_or row k 0 ≡ get_or (get_or rows j []) k 0 →
    column (set rows j row) k ≡ column rows k
column_kept rows j k row e = map-set_same (λ (r : List ℕ). get_or r k 0) rows j row [] e

-- a stripe of which one row was rewritten in part
pub stored_row : (rows : List (List ℕ)) (old new : List ℕ) (j at n : ℕ) (f : ℕ → ℕ) → get_or rows j [] ≡ old →
    length new ≡ length old
    → ((k : ℕ) → k < n → get_or new (at + k) 0 ≡ f k)
    → ((k : ℕ) → k < at → get_or new k 0 ≡ get_or old k 0)
    → ((k : ℕ) → at + n ≤ k → get_or new k 0 ≡ get_or old k 0)
    → Stored j at n f rows (set rows j new)
stored_row rows old new j at n f e long inside below above = record {
  shape = map-set_same length rows j new [] (long ∙ ap length (sym e));
  inside = λ k lt. column_set rows j (at + k) new ∙ ap (set (column rows (at + k)) j) (inside k lt);
  below = λ k lt. column_kept rows j k new (below k lt ∙ ap (λ (r : List ℕ). get_or r k 0) (sym e));
  above = λ k le. column_kept rows j k new (above k le ∙ ap (λ (r : List ℕ). get_or r k 0) (sym e));
}

pub length_column : (rows : List (List ℕ)) (k : ℕ) → length (column rows k) ≡ length rows
length_column rows k = length-map rows (λ (row : List ℕ). get_or row k 0)

pub take_column : (n : ℕ) (rows : List (List ℕ)) (k : ℕ) → column (take n rows) k ≡ take n (column rows k)
take_column n rows k = sym (take-map (λ (row : List ℕ). get_or row k 0) n rows)

-- stripes of one shape have as many rows
pub same_count : (old new : List (List ℕ)) → map length new ≡ map length old → length new ≡ length old
same_count old new e = sym (length-map new length) ∙ ap length e ∙ length-map old length

-- and rows of the same lengths
pub same_row : (old new : List (List ℕ)) (j : ℕ) (d : List ℕ) → map length new ≡ map length old →
    length (get_or new j d) ≡ length (get_or old j d)
same_row old new j d e =
    sym (length_at length new j d) ∙ ap (λ (ns : List ℕ). get_or ns j (length d)) e ∙ length_at length old j d

pub width_at : (rows : List (List ℕ)) (row : List ℕ) → slice_get rows 0 ≡ Some row → width_of rows ≡ length row
width_at [] row e = absurd cc
width_at (x ∷ xs) row e = let same : x ≡ row = cc in ap length same

-- there is room up to m in each row of a stripe that kept its shape
pub room_kept : (old new : List (List ℕ)) (m : ℕ) → map length new ≡ map length old → All (λ row. length row ≡ width_of old) old →
    m ≤ width_of old → All (λ row. m ≤ length row) new
room_kept old new m e even le = λ j d lt.
    let long : length (get_or new j d) ≡ width_of old = same_row old new j d e ∙ even j d (omega (arith, same_count old new e)) in
    omega arith

-- one row is stored
pub become_one : (units at n : ℕ) (f : ℕ → ℕ) (g : List ℕ → List ℕ) (old new : List (List ℕ)) → Stored units at n f old new
    → ((k : ℕ) → k < n → set (column old (at + k)) units (f k) ≡ g (column old (at + k))) → Become at n g old new
become_one units at n f g old new s h =
    record { shape = s.shape; inside = λ k lt. s.inside k lt ∙ h k lt; below = s.below; above = s.above }

-- two rows are stored, one after the other
pub become_two : (i j at n : ℕ) (f h : ℕ → ℕ) (g : List ℕ → List ℕ) (old mid new : List (List ℕ)) → Stored i at n f old mid →
    Stored j at n h mid new
    → ((k : ℕ) → k < n → set (set (column old (at + k)) i (f k)) j (h k) ≡ g (column old (at + k))) → Become at n g old new
become_two i j at n f h g old mid new s t e = record {
  shape = t.shape ∙ s.shape;
  inside = λ k lt. t.inside k lt ∙ ap (λ (col : List ℕ). set col j (h k)) (s.inside k lt) ∙ e k lt;
  below = λ k lt. t.below k lt ∙ s.below k lt;
  above = λ k le. t.above k le ∙ s.above k le;
}

-- columns that change one block after the other
pub become_more : (m n end : ℕ) (f : List ℕ → List ℕ) (old mid new : List (List ℕ)) → end ≡ m + n → Become 0 m f old mid →
    Become m n f mid new → Become 0 end f old new
become_more m n end f old mid new e s t = record {
  shape = t.shape ∙ s.shape;
  inside = λ k lt. elim (cases_lt k m) [
    | inl below ↦ let zero_k : 0 + k ≡ k = omega arith in rw zero_k (t.below k below ∙ rw zero_k at (s.inside k below))
    | inr above ↦
        let there : 0 + k ≡ m + (k - m) = omega arith in
        rw there (t.inside (k - m) (omega arith) ∙ ap f (s.above (m + (k - m)) (omega arith)))
  ];
  below = λ k lt. absurd (omega arith);
  above = λ k le. t.above k (omega arith) ∙ s.above k (omega arith);
}

-- a row whose byte is the same in each column is the same row
pub row_kept : (old new : List (List ℕ)) (j : ℕ) → map length new ≡ map length old →
    ((k : ℕ) → get_or (column new k) j 0 ≡ get_or (column old k) j 0) → slice_get new j ≡ slice_get old j
row_kept old new j shape same = elim (cases_lt j (length old)) [
  | inl there ↦
      let count : length new ≡ length old = same_count old new shape in
      let there_new : j < length new = omega arith in
      let rows : get_or new j [] ≡ get_or old j [] =
      same_number_lists (get_or new j []) (get_or old j []) (same_row old new j [] shape) (λ k lt.
      sym (cell new j k [] there_new) ∙ same k ∙ cell old j k [] there) in
      slice_get-get_or new j [] there_new ∙ ap Some rows ∙ sym (slice_get-get_or old j [] there)
  | inr past ↦ slice_get_past new j (omega (arith, same_count old new shape)) ∙ sym (slice_get_past old j past)
]
