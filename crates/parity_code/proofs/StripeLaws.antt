-- Stripes whose lost rows are restored.
use Rattle.std.proofs.Common.{◌≡◌, ◌≢◌, ℕ, zero, suc, ◌+◌, ◌<◌, ◌⊎◌, List, [], ◌∷◌, length, map, get_or, set, refl, sym, ap, ◌∙◌, arith, inl, inr}
use Rattle.std.specs.List.{All, Contains}
use Rattle.std.proofs.lemmas.Bool.{cases_lt, cases_eq}
use Rattle.std.proofs.lemmas.List.{length-set, get_or-map, get_or-set_same, get_or-set_other}
use Rattle.std.proofs.lemmas.List.Elements.{All-set}
use Rattle.std.proofs.lemmas.Grind.{get_or-set_at, same_number_lists}
use Rattle.parity_code.specs.declared.repair.Repair.{Repair}
use Rattle.parity_code.specs.Parity.{column}
use Rattle.parity_code.specs.Codeword.{width_of, AgreeOutside}
use Rattle.parity_code.specs.Columns.{Stored, Become}
use Rattle.parity_code.specs.Syndromes.{p_syndrome, q_syndrome}
use Rattle.parity_code.specs.Repairs.{repaired, repaired_column, repair_of, first_repair, second_repair, IsRepair, AreRepairs}
use Rattle.parity_code.specs.Decoding.{decoded}
use Rattle.parity_code.specs.Restored.{HasParity, Restored}
use Rattle.parity_code.proofs.ParityLaws.{AreBytes}
use Rattle.parity_code.proofs.ColumnLaws.{row_kept, length_column, same_count, same_row}
use Rattle.parity_code.proofs.RestoreLaws.{one_restored, two_restored, one_solved, two_solved}

width_is : (rows : List (List ℕ)) → width_of rows ≡ get_or (map length rows) 0 0
width_is [] = refl
width_is (x ∷ xs) = refl

pub width_kept : (old new : List (List ℕ)) → map length new ≡ map length old → width_of new ≡ width_of old
width_kept old new e = width_is new ∙ ap (λ (ns : List ℕ). get_or ns 0 0) e ∙ sym (width_is old)

pub parity_kept : (units : ℕ) (old new : List (List ℕ)) → map length new ≡ map length old → HasParity units old →
    HasParity units new
parity_kept units old new e h =
    let count : length new ≡ length old = same_count old new e in
    record {
      data_rows = h.data_rows;
      some = omega (arith, h.some);
      most = omega (arith, h.most);
      few = h.few;
      even = λ j d lt. same_row old new j d e ∙ h.even j d (omega arith) ∙ sym (width_kept old new e);
    }

-- a column keeps its other bytes
other_byte : (j i v : ℕ) (col : List ℕ) → j ≢ i → get_or (set col i v) j 0 ≡ get_or col j 0
other_byte j i v col other = get_or-set_other col i j v 0 other

not_first : (x j : ℕ) (xs : List ℕ) → ¬ Contains (x ∷ xs) j → j ≢ x
not_first x j xs none e = none (0, omega arith, sym e)

not_second : (x y j : ℕ) (xs : List ℕ) → ¬ Contains (x ∷ (y ∷ xs)) j → j ≢ y
not_second x y j xs none e = none (1, omega arith, sym e)

one_contains : (x j k : ℕ) → k < 1 → get_or (x ∷ []) k j ≡ j → j ≡ x
one_contains x j zero lt e = sym e
one_contains x j (suc k) lt e = absurd (omega arith)

two_contain : (x y j k : ℕ) → k < 2 → get_or (x ∷ (y ∷ [])) k j ≡ j → (j ≡ x) ⊎ (j ≡ y)
two_contain x y j zero lt e = inl (sym e)
two_contain x y j (suc zero) lt e = inr (sym e)
two_contain x y j (suc (suc k)) lt e = absurd (omega arith)

neither : (x y j : ℕ) → j ≢ x → j ≢ y → ¬ Contains (x ∷ (y ∷ [])) j
neither x y j nx ny w = elim (two_contain x y j w.0 w.1 w.2) [ inl e ↦ nx e | inr e ↦ ny e ]

-- columns that agree outside x are the same without x
pub same_without_one : (x : ℕ) (xs ys : List ℕ) → AgreeOutside (x ∷ []) xs ys → x < length xs → set ys x 0 ≡ set xs x 0
same_without_one x xs ys agree lt =
    same_number_lists (set ys x 0) (set xs x 0) (length-set ys x 0 ∙ sym agree.long ∙ sym (length-set xs x 0)) (λ k k_lt.
    elim (cases_eq k x) [
      | inl same ↦ get_or-set_at ys x k 0 0 same (omega (arith, agree.long)) ∙ sym (get_or-set_at xs x k 0 0 same lt)
      | inr other ↦ other_byte k x 0 ys other ∙ sym (agree.same k (λ w. other (one_contains x k w.0 w.1 w.2)))
          ∙ sym (other_byte k x 0 xs other)
    ])

pub same_without_two : (x y : ℕ) (xs ys : List ℕ) → AgreeOutside (x ∷ (y ∷ [])) xs ys → x < length xs → y < length xs →
    set (set ys x 0) y 0 ≡ set (set xs x 0) y 0
same_without_two x y xs ys agree x_lt y_lt =
    let yl : length (set ys x 0) ≡ length xs = length-set ys x 0 ∙ sym agree.long in
    let xl : length (set xs x 0) ≡ length xs = length-set xs x 0 in
    same_number_lists (set (set ys x 0) y 0) (set (set xs x 0) y 0)
    (length-set (set ys x 0) y 0 ∙ yl ∙ sym xl ∙ sym (length-set (set xs x 0) y 0)) (λ k k_lt.
    elim (cases_eq k y) [
      | inl same ↦ get_or-set_at (set ys x 0) y k 0 0 same (omega arith)
          ∙ sym (get_or-set_at (set xs x 0) y k 0 0 same (omega arith))
      | inr other ↦ other_byte k y 0 (set ys x 0) other ∙ elim (cases_eq k x) [
        | inl same ↦ get_or-set_at ys x k 0 0 same (omega (arith, agree.long)) ∙ sym (get_or-set_at xs x k 0 0 same x_lt)
        | inr third ↦ other_byte k x 0 ys third ∙ sym (agree.same k (neither x y k third other)) ∙ sym (other_byte k x 0 xs third)
      ]
          ∙ sym (other_byte k y 0 (set xs x 0) other)
    ])

unrepaired : (units : ℕ) (r s : Repair) (col : List ℕ) (j : ℕ) → j ≢ r.row → j ≢ s.row →
    get_or (repaired_column units r s col) j 0 ≡ get_or col j 0
unrepaired units r s col j nr ns =
    let first : List ℕ = set col r.row (repaired r (p_syndrome units col) (q_syndrome units col)) in
    other_byte j s.row (repaired s (p_syndrome units col) (q_syndrome units col)) first ns
    ∙ other_byte j r.row (repaired r (p_syndrome units col) (q_syndrome units col)) col nr

-- columns up to the end, and those beyond
up_to : (n : ℕ) (f : List ℕ → List ℕ) (old new : List (List ℕ)) → Become 0 n f old new → (k : ℕ) → k < n →
    column new k ≡ f (column old k)
up_to n f old new b k lt = let same : 0 + k ≡ k = omega arith in rw same at (b.inside k lt)

cleared : (x n : ℕ) (old new : List (List ℕ)) → Stored x 0 n (λ _. 0) old new → (k : ℕ) → k < n →
    column new k ≡ set (column old k) x 0
cleared x n old new s k lt = let same : 0 + k ≡ k = omega arith in rw same at (s.inside k lt)

-- the columns of rows of bytes are bytes
column_bytes : (rows : List (List ℕ)) (k : ℕ) → All (λ row. (i : ℕ) → get_or row i 0 < 256) rows → AreBytes (column rows k)
column_bytes rows k bytes = λ j d lt.
    let there : j < length rows = omega (arith, length_column rows k) in
    rw (get_or-map (λ (row : List ℕ). get_or row k 0) rows j [] d there) (bytes j [] there k)

pub restored_by_one : (units x : ℕ) (r : Repair) (old mid new : List (List ℕ)) → HasParity units old →
    All (λ row. (i : ℕ) → get_or row i 0 < 256) old → x < length old → IsRepair units x r → r ≡ repair_of units x
    → Stored x 0 (length (get_or old x [])) (λ _. 0) old mid → Become 0 (width_of mid) (repaired_column units r r) mid new →
    Restored units (x ∷ []) old new
unfolding decoded
restored_by_one units x r old mid new parity bytes lt repair is_r clear become =
    let room : length (get_or old x []) ≡ width_of old = parity.even x [] lt in
    let width : width_of mid ≡ width_of old = width_kept old mid clear.shape in
    let shape : map length new ≡ map length old = become.shape ∙ clear.shape in
    record {
      shape = shape;
      exact = λ k k_lt.
          up_to (width_of mid) (repaired_column units r r) mid new become k (omega arith)
          ∙ ap (repaired_column units r r) (cleared x (length (get_or old x [])) old mid clear k (omega arith))
          ∙ ap (λ (a : Repair). repaired_column units a a (set (column old k) x 0)) is_r;
      kept = λ j none. row_kept old new j shape (λ k.
          let other : j ≢ x = not_first x j [] none in
          let not_row : j ≢ r.row = rw repair.row other in
          elim (cases_lt k (width_of old)) [
            | inl below ↦
                ap (λ (col : List ℕ). get_or col j 0)
                (up_to (width_of mid) (repaired_column units r r) mid new become k (omega arith))
                ∙ unrepaired units r r (column mid k) j not_row not_row
                ∙ ap (λ (col : List ℕ). get_or col j 0) (cleared x (length (get_or old x [])) old mid clear k (omega arith))
                ∙ other_byte j x 0 (column old k) other
            | inr beyond ↦ ap (λ (col : List ℕ). get_or col j 0) (become.above k (omega arith) ∙ clear.above k (omega arith))
          ]);
      whole = λ k col k_lt whole agree.
          let long : length col ≡ length old = agree.long ∙ length_column old k in
          up_to (width_of mid) (repaired_column units r r) mid new become k (omega arith)
          ∙ ap (repaired_column units r r)
          (cleared x (length (get_or old x [])) old mid clear k (omega arith)
          ∙ same_without_one x col (column old k) agree (omega arith))
          ∙ one_restored units x r col repair whole (omega arith) (omega (arith, parity.some)) (omega (arith, parity.most));
      solved = λ count k k_lt.
          let col : List ℕ = column old k in
          let long : length col ≡ length old = length_column old k in
          let erased_long : length (set col x 0) ≡ length col = length-set col x 0 in
          let is : column new k ≡ repaired_column units r r (set col x 0) =
          up_to (width_of mid) (repaired_column units r r) mid new become k (omega arith)
          ∙ ap (repaired_column units r r) (cleared x (length (get_or old x [])) old mid clear k (omega arith)) in
          rw is (one_solved units x r (set col x 0) repair
          (All-set (λ (d : ℕ). d < 256) col x 0 (omega arith) (column_bytes old k bytes)) (omega arith) (omega arith)
          (get_or-set_same col x 0 0 (omega arith)));
    }

pub restored_by_two : (units x y : ℕ) (r s : Repair) (old one mid new : List (List ℕ)) → HasParity units old →
    All (λ row. (i : ℕ) → get_or row i 0 < 256) old → x < y → y < length old → length old ≡ units + 2 → AreRepairs units x y r s →
    r ≡ first_repair units x y → s ≡ second_repair units x y
    → Stored x 0 (length (get_or old x [])) (λ _. 0) old one → Stored y 0 (length (get_or one y [])) (λ _. 0) one mid
    → Become 0 (width_of mid) (repaired_column units r s) mid new → Restored units (x ∷ (y ∷ [])) old new
unfolding decoded
restored_by_two units x y r s old one mid new parity bytes rising lt two repairs is_r is_s clear clear_other become =
    let room : length (get_or old x []) ≡ width_of old = parity.even x [] (omega arith) in
    let room_other : length (get_or one y []) ≡ width_of old = same_row old one y [] clear.shape ∙ parity.even y [] lt in
    let shape_mid : map length mid ≡ map length old = clear_other.shape ∙ clear.shape in
    let width : width_of mid ≡ width_of old = width_kept old mid shape_mid in
    let shape : map length new ≡ map length old = become.shape ∙ shape_mid in
    let erased : (k : ℕ) → k < width_of old → column mid k ≡ set (set (column old k) x 0) y 0 = λ k k_lt.
    cleared y (length (get_or one y [])) one mid clear_other k (omega arith)
    ∙ ap (λ (col : List ℕ). set col y 0) (cleared x (length (get_or old x [])) old one clear k (omega arith)) in
    record {
      shape = shape;
      exact = λ k k_lt.
          up_to (width_of mid) (repaired_column units r s) mid new become k (omega arith)
          ∙ ap (repaired_column units r s) (erased k k_lt)
          ∙ ap (λ (a : Repair). repaired_column units a s (set (set (column old k) x 0) y 0)) is_r
          ∙ ap (λ (b : Repair). repaired_column units (first_repair units x y) b (set (set (column old k) x 0) y 0)) is_s;
      kept = λ j none. row_kept old new j shape (λ k.
          let other : j ≢ x = not_first x j (y ∷ []) none in
          let third : j ≢ y = not_second x y j [] none in
          let not_row : j ≢ r.row = rw repairs.row other in
          let not_other_row : j ≢ s.row = rw repairs.other_row third in
          elim (cases_lt k (width_of old)) [
            | inl below ↦
                ap (λ (col : List ℕ). get_or col j 0)
                (up_to (width_of mid) (repaired_column units r s) mid new become k (omega arith))
                ∙ unrepaired units r s (column mid k) j not_row not_other_row
                ∙ ap (λ (col : List ℕ). get_or col j 0) (erased k below) ∙ other_byte j y 0 (set (column old k) x 0) third
                ∙ other_byte j x 0 (column old k) other
            | inr beyond ↦ ap (λ (col : List ℕ). get_or col j 0)
                (become.above k (omega arith) ∙ clear_other.above k (omega arith) ∙ clear.above k (omega arith))
          ]);
      whole = λ k col k_lt whole agree.
          let long : length col ≡ length old = agree.long ∙ length_column old k in
          up_to (width_of mid) (repaired_column units r s) mid new become k (omega arith)
          ∙ ap (repaired_column units r s)
          (erased k k_lt ∙ same_without_two x y col (column old k) agree (omega arith) (omega arith))
          ∙ two_restored units x y r s col repairs whole rising (omega arith) (omega arith);
      solved = λ count k k_lt.
          let col : List ℕ = column old k in
          let first : List ℕ = set col x 0 in
          let long : length col ≡ length old = length_column old k in
          let first_long : length first ≡ length col = length-set col x 0 in
          let erased_long : length (set first y 0) ≡ length first = length-set first y 0 in
          let is : column new k ≡ repaired_column units r s (set first y 0) =
          up_to (width_of mid) (repaired_column units r s) mid new become k (omega arith)
          ∙ ap (repaired_column units r s) (erased k k_lt) in
          let all : AreBytes (set first y 0) =
          All-set (λ (d : ℕ). d < 256) first y 0 (omega arith)
          (All-set (λ (d : ℕ). d < 256) col x 0 (omega arith) (column_bytes old k bytes)) in
          rw is (two_solved units x y r s (set first y 0) repairs all rising (omega arith) (omega arith)
          (other_byte x y 0 first (λ e. omega arith) ∙ get_or-set_same col x 0 0 (omega arith))
          (get_or-set_same first y 0 0 (omega arith)));
    }

pub rows_of_width : (w : ℕ) (rows : List (List ℕ)) → 0 < length rows → All (λ row. length row ≡ w) rows →
    All (λ row. length row ≡ width_of rows) rows
rows_of_width w [] some even = absurd (omega arith)
rows_of_width w (x ∷ xs) some even = λ j d lt. even j d lt ∙ sym (even 0 d (omega arith))
