-- The rows of a piece as words.
use Rattle.std.proofs.Common.{◌≡◌, ℕ, zero, suc, true, ◌+◌, ◌/◌, ◌%◌, ◌<◌, List, [], ◌∷◌, length, get_or, take}
use Rattle.std.proofs.Common.{map, refl, sym, ap, ◌∙◌, arith, inl, inr, eq-eqb, ne_eqb}
use Rattle.std.specs.List.{Contains, range_with_len}
use Rattle.std.specs.Prelude.{Some, not, ◌&&◌, ◌==◌}
use Rattle.std.proofs.lemmas.Bool.{cases_Bool, cases_eq, and_parts}
use Rattle.std.proofs.lemmas.Bool.Decides.{nat_tests}
use Rattle.std.proofs.lemmas.Nat.{div-mul-add, mod-mul-add}
use Rattle.std.proofs.lemmas.List.FromFn.{length-map-range_with_len, get_or-map-range_with_len, take-map-range_with_len}
use Rattle.std.proofs.lemmas.Option.{same_Some}
use Rattle.data_map.specs.declared.check.RawMap.{RawMap}
use Rattle.data_map.specs.Check.{IsChecked}
use Rattle.data_map.specs.Striping.{replicas, group_width, data_units, group_of, row_of, position_of, offset_of}
use Rattle.data_map.specs.Inverse.{stripe_in, unit_in, stripe_at, unit_at}
use Rattle.data_map.proofs.Striping.{stripe_again}
use Rattle.parity_code.specs.Parity.{column}
use Rattle.parity_code.specs.Codeword.{codeword}
use Rattle.parity_code.specs.Decoding.{ArePositions, decoded}
use Rattle.server_rules.specs.declared.files.Component.{Component}
use Rattle.server_rules.specs.Maps.{code_of}
use Rattle.server_rules.specs.Standing.{replica_from, replica}
use Rattle.server_rules.specs.Columns.{row_at, unit_rows, unit_with, wanted}
use Rattle.server_rules.specs.Decoding.{lost_units, restored}
use Rattle.stripe_repair.proofs.CodewordLaws.{rows_count}
use Rattle.stripe_repair.proofs.RestoredLaws.{lost_are}
use Rattle.stripe_plan.specs.Touched.{unit_start}
use Rattle.stripe_plan.specs.Words.{code_of as plan_code}
use Rattle.stripe_plan.specs.Laws.{data_at, word_of}
use Rattle.plan_law.specs.FileLayout.{word_in}
use Rattle.plan_law.proofs.Codes.{same_word}
use Rattle.plan_law.proofs.Decoded.{decoded_are_words}
use Rattle.stripe_plan.proofs.StripeRows.{same_range}
use Rattle.plan_law.specs.Pieces.{RepairsWriteWords, RebuildsCopyWords, RebuildsWriteWords}

-- ---- rows

column_is : (f : ℕ → List ℕ) (a n j : ℕ) →
    column (map f (range_with_len a n)) j ≡ map (λ (c : ℕ). get_or (f c) j 0) (range_with_len a n)
column_is f a zero j = refl
column_is f a (suc n) j = ap (λ xs. get_or (f a) j 0 ∷ xs) (column_is f (a + 1) n j)

-- the two crates of rules have one code of a map
one_code : (m : RawMap) → code_of m ≡ plan_code m
one_code m = elim (cases_eq m.algorithm 1) [
  | inl one ↦ rw (eq-eqb m.algorithm 1 one) refl
  | inr more ↦ rw (ne_eqb m.algorithm 1 more) (elim (cases_eq m.algorithm 4) [
    | inl four ↦ rw (eq-eqb m.algorithm 4 four) refl
    | inr other ↦ rw (ne_eqb m.algorithm 4 other) refl
  ])
]

-- ---- places

pub place : (m : RawMap) (s b p : ℕ) → IsChecked m → b < m.unit → p / group_width m ≡ group_of m s →
    (stripe_at m p (offset_of m s b) ≡ s) × (unit_at m p (offset_of m s b) ≡ unit_in m s (p % group_width m)) ×
    (offset_of m s b % m.unit ≡ b)
place m s b p c bl group =
    let row : offset_of m s b / m.unit ≡ row_of m s = div-mul-add (row_of m s) m.unit b bl in
    let stripe : stripe_at m p (offset_of m s b) ≡ s = ap (λ g. stripe_in m g (offset_of m s b / m.unit)) group
    ∙ ap (λ r. stripe_in m (group_of m s) r) row ∙ stripe_again m s c in
    (stripe, ap (λ x. unit_in m x (p % group_width m)) stripe, mod-mul-add (row_of m s) m.unit b bl)

pub word_there : (m : RawMap) (s b k : ℕ) (e : ℕ → ℕ) → IsChecked m → b < m.unit →
    (k / replicas m) / group_width m ≡ group_of m s →
    word_in m k (offset_of m s b) e ≡ word_of m e s b (unit_with m s k)
word_there m s b k e c bl group =
    let p : ℕ = k / replicas m in
    let z : ℕ = offset_of m s b in
    let at = place m s b (k / replicas m) c bl group in
    ap (λ x. word_of m e x (z % m.unit) (unit_at m p z)) at.0 ∙ ap (λ x. word_of m e s x (unit_at m p z)) at.2
    ∙ ap (λ x. word_of m e s b x) at.1

-- ---- a repair

pub repairs_write_words : RepairsWriteWords
unfolding wanted unit_rows
repairs_write_words m cs heard s first count e c rows k group j bl lt =
    let f : ℕ → List ℕ = λ (u : ℕ). row_at heard (replica m cs (position_of m s u)) count in
    let old : column (take (data_units m) (map (λ (u : ℕ). row_at heard (replica m cs (position_of m s u)) count)
    (range_with_len 0 (group_width m)))) j ≡ data_at m e s (first + j) =
    ap (λ xs. column xs j) (take-map-range_with_len (λ (u : ℕ). row_at heard (replica m cs (position_of m s u)) count) 0
    (group_width m) (data_units m) (omega arith))
    ∙ column_is (λ (u : ℕ). row_at heard (replica m cs (position_of m s u)) count) 0 (data_units m) j
    ∙ same_range (λ (u : ℕ). get_or (row_at heard (replica m cs (position_of m s u)) count) j 0)
    (λ (u : ℕ). e (unit_start m s u + (first + j))) 0 (data_units m) (λ u le low. rows u j (omega (arith, low)) lt) in
    get_or-map-range_with_len (λ (i : ℕ). get_or (codeword (code_of m) (column (take (data_units m)
    (map (λ (u : ℕ). row_at heard (replica m cs (position_of m s u)) count) (range_with_len 0 (group_width m)))) i))
    (unit_with m s k) 0) 0 count j j 0 lt (omega arith)
    ∙ ap (λ xs. get_or (codeword (code_of m) xs) (unit_with m s k) 0) old
    ∙ ap (λ x. get_or (codeword x (data_at m e s (first + j))) (unit_with m s k) 0) (one_code m)
    ∙ sym (word_there m s (first + j) k e c bl group)

-- ---- a rebuild

-- a replica stands at its position
pub stands_at : (m : RawMap) (p : ℕ) (cs : List Component) (n f : ℕ) → replica_from m p cs n ≡ Some f → f / replicas m ≡ p
unfolding replica_from
stands_at m p [] n f e = absurd (cc e)
stands_at m p (at ∷ cs) n f e = elim (cases_Bool (not at.missing && (n / replicas m == p))) [
  | inl t ↦
      let here : n ≡ f = same_Some n f (rw t at e) in
      let there : (n / replicas m == p) ≡ true = (and_parts (not at.missing) (n / replicas m == p) t).1 in
      ap (λ x. x / replicas m) (sym here) ∙ grind (arith, nat_tests, there)
  | inr no_more ↦ stands_at m p cs (n + 1) f (rw no_more at e)
]

pub rebuilds_copy_words : RebuildsCopyWords
rebuilds_copy_words m cs heard s first count d k f e words j bl lt =
    words j bl lt ∙ same_word m f k (offset_of m s (first + j)) d (stands_at m (k / replicas m) cs 0 f e)

pub rebuilds_write_words : RebuildsWriteWords
unfolding restored unit_rows
rebuilds_write_words m cs heard s first count d c db few rows k group j bl lt =
    let lost : List ℕ = lost_units m cs s in
    let col : List ℕ = map (λ (u : ℕ). get_or (row_at heard (replica m cs (position_of m s u)) count) j 0)
    (range_with_len 0 (group_width m)) in
    let are : ArePositions (group_width m) (lost_units m cs s) = rw (rows_count m cs s heard count) at
    (lost_are m cs s heard count) in
    let long : length col ≡ group_width m =
    length-map-range_with_len (λ (u : ℕ). get_or (row_at heard (replica m cs (position_of m s u)) count) j 0) 0
    (group_width m) in
    let had : (u : ℕ) → u < group_width m → ¬ Contains (lost_units m cs s) u → get_or col u 0 ≡ word_of m d s (first + j) u =
    λ u low none. get_or-map-range_with_len
    (λ (u : ℕ). get_or (row_at heard (replica m cs (position_of m s u)) count) j 0) 0 (group_width m) u u 0 low (omega arith)
    ∙ rows u j low none lt in
    get_or-map-range_with_len (λ (i : ℕ). get_or (decoded (data_units m) (lost_units m cs s)
    (column (map (λ (u : ℕ). row_at heard (replica m cs (position_of m s u)) count) (range_with_len 0 (group_width m))) i))
    (unit_with m s k) 0) 0 count j j 0 lt (omega arith)
    ∙ ap (λ xs. get_or (decoded (data_units m) (lost_units m cs s) xs) (unit_with m s k) 0)
    (column_is (λ (u : ℕ). row_at heard (replica m cs (position_of m s u)) count) 0 (group_width m) j)
    ∙ decoded_are_words m s (first + j) d (lost_units m cs s) col c db are few long had (unit_with m s k)
    ∙ sym (word_there m s (first + j) k d c bl group)
