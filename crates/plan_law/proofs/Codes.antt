-- The layout of a checked map is a code.
use Rattle.std.proofs.Common.{◌≡◌, ℕ, zero, suc, ◌+◌, ◌*◌, ◌/◌, ◌%◌, ◌<◌, true, false, List, [], ◌∷◌, ◌++◌, get_or}
use Rattle.std.proofs.Common.{refl, sym, ap, ◌∙◌, arith, inl, inr, eq-eqb, map}
use Rattle.std.specs.Prelude.{if◌then◌else◌, nat_eq, nat_lt}
use Rattle.std.specs.List.{range_with_len}
use Rattle.std.proofs.lemmas.Bool.{lt-ltb, and_parts}
use Rattle.std.proofs.lemmas.Nat.{div-add-mod', mod_below, div-mul-add, mod-mul-add}
use Rattle.osd_lists.proofs.Tests.{nat_same, nat_less}
use Rattle.gf256.specs.Field.{two_to}
use Rattle.gf256.proofs.Product.{product_zero}
use Rattle.data_map.specs.declared.check.RawMap.{RawMap}
use Rattle.data_map.specs.Check.{IsChecked}
use Rattle.data_map.specs.Striping.{replicas, positions, parities, data_units, stripe_of, data_unit_of, column_of, place_of}
use Rattle.data_map.specs.Striping.{replica_of}
use Rattle.data_map.specs.Inverse.{LiesAt, stripe_at, unit_at, byte_at}
use Rattle.data_map.proofs.Striping.{column_below, data_unit_below, position_below, place_found, found_again}
use Rattle.data_map.proofs.Shape.{replicas_inside}
use Rattle.parity_code.specs.declared.code.Code.{Code}
use Rattle.parity_code.specs.declared.code.Code.TheVariants.{Plain, Xor, PandQ}
use Rattle.parity_code.specs.Parity.{p_of, q_from}
use Rattle.parity_code.specs.Codeword.{codeword}
use Rattle.stripe_plan.specs.Touched.{unit_start}
use Rattle.stripe_plan.specs.Words.{code_of}
use Rattle.stripe_plan.specs.Laws.{word_of}
use Rattle.stripe_plan.proofs.Columning.{word_is}
use Rattle.stripe_plan.proofs.StripeRows.{same_range}
use Rattle.plan_law.specs.FileLayout.{has_parity, column_at, column_of_cell, is_copy, word_in}
use Rattle.plan_law.specs.Layouts.{LayoutsAreCodes}
use Rattle.plan_law.proofs.Cells.{with_parity, is_coded, stands_at, unit_inside, lies_there, col_coded, col_plain, cell_coded}
use Rattle.plan_law.proofs.Cells.{cell_plain, byte_col}

-- ---- a cell speaks of its column alone

-- data that are alike in a column have the same words there
pub words_same : (m : RawMap) (d e : ℕ → ℕ) (s b c : ℕ) →
    ((k : ℕ) → k < data_units m → d (unit_start m s k + b) ≡ e (unit_start m s k + b)) → word_of m d s b c ≡ word_of m e s b c
words_same m d e s b c same =
    ap (λ ds. get_or (codeword (code_of m) ds) c 0)
    (same_range (λ k. d (unit_start m s k + b)) (λ k. e (unit_start m s k + b)) 0 (data_units m)
    (λ k le lt. same k (omega (arith, lt))))

-- a unit of data holds its byte
pub data_word : (m : RawMap) (k z : ℕ) (d : ℕ → ℕ) → unit_at m (k / replicas m) z < data_units m →
    word_in m k z d ≡ d (byte_at m (k / replicas m) z)
data_word m k z d holds = word_is m d (stripe_at m (k / replicas m) z) (z % m.unit) (unit_at m (k / replicas m) z) holds

-- without parity each unit is of data
pub all_data : (m : RawMap) (k z : ℕ) → IsChecked m → parities m ≡ 0 → unit_at m (k / replicas m) z < data_units m
all_data m k z c none = omega (arith, none, unit_inside m (k / replicas m) z c)

pub word_local : (m : RawMap) (k z : ℕ) (d f : ℕ → ℕ) → IsChecked m →
    ((q : ℕ) → column_at m q ≡ column_of_cell m k z → d q ≡ f q) → word_in m k z d ≡ word_in m k z f
word_local m k z d f c same = elim (with_parity m) [
  | inl some ↦ words_same m d f (stripe_at m (k / replicas m) z) (z % m.unit) (unit_at m (k / replicas m) z)
      (λ u low. same (unit_start m (stripe_at m (k / replicas m) z) u + z % m.unit)
      (byte_col m (stripe_at m (k / replicas m) z) u (z % m.unit) some low (mod_below z m.unit c.some_unit)
      ∙ sym (cell_coded m k z some)))
  | inr none ↦
      let holds = all_data m k z c none in
      data_word m k z d holds ∙ same (byte_at m (k / replicas m) z) (col_plain m (byte_at m (k / replicas m) z) none
      ∙ sym (cell_plain m k z none)) ∙ sym (data_word m k z f holds)
]

-- ---- replicas of one position

pub same_col : (m : RawMap) (f k z : ℕ) → f / replicas m ≡ k / replicas m → column_of_cell m f z ≡ column_of_cell m k z
same_col m f k z e = ap (λ p. if has_parity m then stripe_at m p z * m.unit + z % m.unit else byte_at m p z) e

pub same_word : (m : RawMap) (f k z : ℕ) (d : ℕ → ℕ) → f / replicas m ≡ k / replicas m → word_in m f z d ≡ word_in m k z d
same_word m f k z d e = ap (λ p. word_of m d (stripe_at m p z) (z % m.unit) (unit_at m p z)) e

-- ---- zeros

p_zeros : (a n : ℕ) → p_of (map (λ c. 0) (range_with_len a n)) ≡ 0
p_zeros a zero = refl
p_zeros a (suc n) = rw (p_zeros (a + 1) n) refl

q_zeros : (i a n : ℕ) → q_from i (map (λ c. 0) (range_with_len a n)) ≡ 0
q_zeros i a zero = refl
q_zeros i a (suc n) = rw (q_zeros (i + 1) (a + 1) n, product_zero (two_to i)) refl

zeros_at : (a n k : ℕ) → get_or (map (λ (c : ℕ). zero) (range_with_len a n)) k zero ≡ zero
zeros_at a zero k = refl
zeros_at a (suc n) zero = refl
zeros_at a (suc n) (suc k) = zeros_at (a + 1) n k

-- behind zeros come numbers that are 0
ended : (a n k : ℕ) (xs : List ℕ) → ((j : ℕ) → get_or xs j 0 ≡ 0) →
    get_or (map (λ (c : ℕ). zero) (range_with_len a n) ++ xs) k 0 ≡ 0
ended a zero k xs none = none k
ended a (suc n) zero xs none = refl
ended a (suc n) (suc k) xs none = ended (a + 1) n k xs none

one_zero : (p j : ℕ) → p ≡ 0 → get_or (p ∷ []) j 0 ≡ 0
one_zero p zero e = e
one_zero p (suc j) e = refl

two_zeros : (p q j : ℕ) → p ≡ 0 → q ≡ 0 → get_or (p ∷ q ∷ []) j 0 ≡ 0
two_zeros p q zero e f = e
two_zeros p q (suc j) e f = one_zero q j f

code_zeros : (code : Code) (n c : ℕ) → get_or (codeword code (map (λ k. 0) (range_with_len 0 n))) c 0 ≡ 0
code_zeros Plain n c = zeros_at 0 n c
code_zeros Xor n c = ended 0 n c _ (λ j. one_zero _ j (p_zeros 0 n))
code_zeros PandQ n c = ended 0 n c _ (λ j. two_zeros _ _ j (p_zeros 0 n) (q_zeros 0 0 n))

-- ---- copies

pub copy_lies : (m : RawMap) (k z l : ℕ) → is_copy m k z l ≡ true → LiesAt m l (k / replicas m) z
copy_lies m k z l e =
    let t = and_parts (nat_eq (place_of m l).position (k / replicas m)) (nat_eq (place_of m l).offset z) e in
    (nat_same _ _ t.0, nat_same _ _ t.1)

pub lies_copy : (m : RawMap) (k z l : ℕ) → LiesAt m l (k / replicas m) z → is_copy m k z l ≡ true
lies_copy m k z l there = rw (eq-eqb (place_of m l).position (k / replicas m) there.0, eq-eqb (place_of m l).offset z there.1)
    refl

-- the cell of a byte's place has the byte's stripe, unit and column
pub copy_found : (m : RawMap) (k z l : ℕ) → IsChecked m → LiesAt m l (k / replicas m) z →
    (stripe_at m (k / replicas m) z ≡ stripe_of m l) × (unit_at m (k / replicas m) z ≡ data_unit_of m l) ×
    (z % m.unit ≡ column_of m l) × (byte_at m (k / replicas m) z ≡ l)
copy_found m k z l c there =
    let found = place_found m l c in (
      ap (λ p. stripe_at m p z) (sym there.0) ∙ ap (λ o. stripe_at m (place_of m l).position o) (sym there.1) ∙ found.0,
      ap (λ p. unit_at m p z) (sym there.0) ∙ ap (λ o. unit_at m (place_of m l).position o) (sym there.1) ∙ found.1,
      ap (λ o. o % m.unit) (sym there.1) ∙ mod-mul-add _ m.unit (column_of m l) (column_below m l c),
      ap (λ p. byte_at m p z) (sym there.0) ∙ ap (λ o. byte_at m (place_of m l).position o) (sym there.1) ∙ found_again m l c,
    )

-- the component of a position that there is
component_below : (m : RawMap) (k : ℕ) → IsChecked m → k / replicas m < positions m → k < m.comps
component_below m k c lt =
    let rest : k % replicas m < replicas m = mod_below k (replicas m) (omega arith) in
    omega (arith, replicas_inside m (k / replicas m) c lt, div-add-mod' k (replicas m), rest)

pub copies_are : (m : RawMap) (k z l : ℕ) → IsChecked m → is_copy m k z l ≡ true →
    (nat_lt k m.comps ≡ true) × (column_of_cell m k z ≡ column_at m l) × ((d : ℕ → ℕ) → word_in m k z d ≡ d l)
copies_are m k z l c e =
    let there = copy_lies m k z l e in
    let found = copy_found m k z l c there in
    let below : k < m.comps = component_below m k c (omega (arith, there.0, position_below m l c)) in (
      lt-ltb k m.comps below,
      elim (with_parity m) [
        | inl some ↦ cell_coded m k z some ∙ ap (λ s. s * m.unit + z % m.unit) found.0 ∙ ap
            (λ b. stripe_of m l * m.unit + b) found.2 ∙ sym (col_coded m l some)
        | inr none ↦ cell_plain m k z none ∙ found.3 ∙ sym (col_plain m l none)
      ],
      λ d. data_word m k z d (omega (arith, found.1, data_unit_below m l c)) ∙ ap d found.3,
    )

pub copy_there : (m : RawMap) (l : ℕ) → is_copy m (replica_of m (place_of m l).position 0) (place_of m l).offset l ≡ true
copy_there m l =
    let p = (place_of m l).position in
    let at : p * replicas m + 0 ≡ p * replicas m + 0 = refl in
    lies_copy m (replica_of m p 0) (place_of m l).offset l (sym (div-mul-add p (replicas m) 0 (omega arith)), refl)

-- ---- the code

uncoded : (m : RawMap) → has_parity m ≡ false → parities m ≡ 0
uncoded m e = elim (with_parity m) [ inl some ↦ absurd (cc (sym e ∙ is_coded m some)) | inr none ↦ none ]

pub layouts_are_codes : LayoutsAreCodes
layouts_are_codes m tag c = record {
  local = λ k z d f same. word_local m k z d f c same;
  zeros = λ k z. code_zeros (code_of m) (data_units m) (unit_at m (k / replicas m) z);
  copies = λ k z p e. copies_are m k z p c e;
  has_copy = λ p. (replica_of m (place_of m p).position 0, (place_of m p).offset, copy_there m p);
  plain = λ k z f y u ck cf same.
      let none = uncoded m u in
      let l : ℕ = byte_at m (k / replicas m) z in
      let lk = lies_there m (k / replicas m) z c (stands_at m k c (nat_less k m.comps ck)) (all_data m k z c none) in
      let lf = lies_there m (f / replicas m) y c (stands_at m f c (nat_less f m.comps cf)) (all_data m f y c none) in
      let one : byte_at m (f / replicas m) y ≡ l = sym (cell_plain m f y none) ∙ same ∙ cell_plain m k z none in
      let lf2 : LiesAt m l (f / replicas m) y = rw one at lf in
      (l, lies_copy m k z l lk, lies_copy m f y l lf2, sym lk.0 ∙ lf2.0);
}
