-- What a column is decoded to, whether or not it is one of a codeword.
use Rattle.std.proofs.Common.{◌≡◌, ◌≢◌, ◌<◌, ◌≤◌, ℕ, ◌+◌, false, List, [], ◌∷◌, ◌++◌, length, get_or, take, set, refl, sym, ap, subst, ◌∙◌, arith, inl, inr}
use Rattle.std.specs.List.{Contains}
use Rattle.std.specs.Prelude.{bit_xor}
use Rattle.std.specs.Int.Bits.{xor_zero_r, xor_self}
use Rattle.std.proofs.lemmas.Bool.{cases_lt, cases_eq, lt-ltb, le-ltb, eq-eqb, ne_eqb}
use Rattle.std.proofs.lemmas.Nat.{xor_of_8}
use Rattle.std.proofs.lemmas.List.{length-set, length-take-le, get_or-take, get_or-set_same, get_or-set_other, get_or_past, set-set, get_or-append-add}
use Rattle.std.proofs.lemmas.List.Elements.{All-set}
use Rattle.std.proofs.Math.ListN.{get_or-append}
use Rattle.gf256.specs.Field.{product, two_to, inverse_of}
use Rattle.gf256.proofs.Sums.{xor-eq-zero}
use Rattle.gf256.proofs.Computed.{one_product}
use Rattle.gf256.proofs.Product.{product_lt, zero_product}
use Rattle.gf256.proofs.Laws.{two_to_lt, two_to_pos}
use Rattle.gf256.proofs.Inverses.{inverse_is}
use Rattle.parity_code.specs.declared.code.Code.{Code}
use Rattle.parity_code.specs.declared.code.Code.TheVariants.{Plain, Xor, PandQ}
use Rattle.parity_code.specs.Parity.{p_of, q_of}
use Rattle.parity_code.specs.Codeword.{count_of, codeword, AgreeOutside}
use Rattle.parity_code.specs.Syndromes.{p_syndrome, q_syndrome, HasNoSyndrome}
use Rattle.parity_code.specs.Repairs.{repaired, repaired_column, repair_of, first_repair, second_repair, AreRepairs}
use Rattle.parity_code.specs.Decoding.{decoded}
use Rattle.parity_code.proofs.ParityLaws.{AreBytes}
use Rattle.parity_code.proofs.SyndromeLaws.{p_weight_below, p_syndrome_set, p_syndrome_lt}
use Rattle.parity_code.proofs.RepairLaws.{repairs_with_p, repairs_with_q, repairs_of_units, powers_apart, by_p_named}
use Rattle.parity_code.proofs.RestoreLaws.{two_solved}
use Rattle.parity_code.proofs.DecodeLaws.{length_codeword, codeword_by_syndromes}
use Rattle.parity_code.proofs.BackLaws.{AreLost, decoded_back}
use Rattle.stripe_plan.specs.Lost.{among}
use Rattle.stripe_plan.proofs.Changes.{data_first}

-- ---- lists

not_here : (x k : ℕ) (xs : List ℕ) → among k (x ∷ xs) ≡ false → (k ≢ x) × (among k xs ≡ false)
not_here x k xs e = elim (cases_eq x k) [
  | inl same ↦ absurd (cc (rw (eq-eqb x k same) at e))
  | inr other ↦ (λ (z : k ≡ x). other (sym z), rw (ne_eqb x k other) at e)
]

first_bytes : (n : ℕ) (xs : List ℕ) → n ≤ length xs → AreBytes xs → AreBytes (take n xs)
first_bytes n xs le bytes =
    λ k z lt. let low : k < n = omega (arith, lt, length-take-le n xs le) in
    rw (get_or-take n xs k z low) (bytes k z (omega (arith, low, le)))

-- ---- one unit of data is lost: by P

-- the data of the column have this P, and all the other bytes that it has up to P
pub record HasData (code : Code) (units : ℕ) (lost col ds : List ℕ) : Type 0 where
  pub bytes : AreBytes ds
  pub long : length ds ≡ units
  pub same : (k : ℕ) → k < units + length lost → among k lost ≡ false → get_or (codeword code ds) k 0 ≡ get_or col k 0

module _ (units x : ℕ) (col : List ℕ) (bytes : AreBytes col) (unit : x < units) (room : units < length col) where
  abbrev without : List ℕ
  without = set col x 0

  abbrev lacks : ℕ
  lacks = p_syndrome units without

  abbrev filled : List ℕ
  filled = set without x lacks

  without_bytes : AreBytes without
  without_bytes = All-set (λ (d : ℕ). d < 256) col x 0 (omega arith) bytes

  lacks_lt : lacks < 256
  lacks_lt = p_syndrome_lt units without without_bytes

  filled_bytes : AreBytes filled
  filled_bytes = All-set (λ (d : ℕ). d < 256) without x lacks lacks_lt without_bytes

  filled_long : length filled ≡ length col
  filled_long = length-set without x lacks ∙ length-set col x 0

  one_decoded : decoded units (x ∷ []) col ≡ filled
  unfolding decoded
  one_decoded =
      let named : repair_of units x ≡ record { row = x; by_p = 1; by_q = 0 } = sym (by_p_named units x (omega (arith, unit))) in
      rw (named, one_product lacks lacks_lt, zero_product (q_syndrome units without), xor_zero_r lacks)
      (set-set without x lacks lacks)

  filled_whole : p_syndrome units filled ≡ 0
  filled_whole =
      p_syndrome_set units x lacks without (omega (arith, unit, room, length-set col x 0))
      (omega (arith, room, length-set col x 0)) lacks_lt
      ∙ rw (set-set col x 0 0, p_weight_below units x (omega (arith, unit)), one_product lacks lacks_lt) (xor_self lacks)

  filled_other : (k : ℕ) → k ≢ x → get_or filled k 0 ≡ get_or col k 0
  filled_other k ne = get_or-set_other without x k lacks 0 ne ∙ get_or-set_other col x k 0 0 ne

  abbrev its_data : List ℕ
  its_data = take units filled

  data_long : length its_data ≡ units
  data_long = length-take-le units filled (omega (arith, room, filled_long))

  its_parity : p_of its_data ≡ get_or filled units 0
  its_parity = xor-eq-zero (p_of its_data) (get_or filled units 0) filled_whole

  one_same : (tail : List ℕ) (k : ℕ) → k < units + 1 → k ≢ x
      → get_or (its_data ++ p_of its_data ∷ tail) k 0 ≡ get_or col k 0
  one_same tail k lt ne = elim (cases_lt k units) [
    | inl low ↦
        get_or-append its_data (p_of its_data ∷ tail) 0 k (omega (arith, low, data_long))
        ∙ get_or-take units filled k 0 low ∙ filled_other k ne
    | inr high ↦
        let is : k ≡ length its_data + 0 = omega (arith, high, lt, data_long) in
        let last : k ≡ units = omega (arith, high, lt) in
        ap (λ (j : ℕ). get_or (its_data ++ p_of its_data ∷ tail) j 0) is
        ∙ get_or-append-add its_data (p_of its_data ∷ tail) 0 0 ∙ its_parity
        ∙ ap (λ (j : ℕ). get_or filled j 0) (sym last) ∙ filled_other k ne
  ]

  one_has : (code : Code) → 0 < count_of code → HasData code units (x ∷ []) col (take units (decoded units (x ∷ []) col))
  one_has code some =
      rw one_decoded (record {
        bytes = first_bytes units filled (omega (arith, room, filled_long)) filled_bytes;
        long = data_long;
        same = λ k lt other. by_code code some k lt (not_here x k [] other).0;
      })
    where
      by_code : (c : Code) → 0 < count_of c → (k : ℕ) → k < units + 1 → k ≢ x
          → get_or (codeword c its_data) k 0 ≡ get_or col k 0
      by_code Plain some k lt ne = absurd (omega (arith, some))
      by_code Xor some k lt ne = one_same [] k lt ne
      by_code PandQ some k lt ne = one_same (q_of its_data ∷ []) k lt ne

-- ---- two units are lost, one of them of data: by P and Q

two_repairs : (units x y : ℕ) → x < y → x < units → y < units + 2 → units ≤ 255
    → AreRepairs units x y (first_repair units x y) (second_repair units x y)
unfolding first_repair second_repair
two_repairs units x y rising unit last few = elim (cases_lt y units) [
  | inl inside ↦
      let sum : ℕ = bit_xor (two_to x) (two_to y) in
      let none : sum ≢ 0 = powers_apart x y rising (omega (arith, inside, few)) in
      let inv = inverse_is sum (above sum none) (xor_of_8 (two_to x) (two_to y) (two_to_lt x) (two_to_lt y)) in
      rw (lt-ltb y units inside)
      (repairs_of_units units x y (inverse_of sum) (product (inverse_of sum) (two_to y)) rising inside inv.1
      (product_lt (inverse_of sum) (two_to y) inv.1) inv.0 refl)
  | inr past ↦ elim (cases_eq y units) [
    | inl same ↦
        let inv = inverse_is (two_to x) (two_to_pos x) (two_to_lt x) in
        rw (le-ltb y units past, eq-eqb y units same)
        (repairs_with_p units x y (inverse_of (two_to x)) unit same inv.1 inv.0)
    | inr apart ↦
        rw (le-ltb y units past, ne_eqb y units apart, lt-ltb x units unit)
        (repairs_with_q units x y unit (omega (arith, past, apart)))
  ]
]
  where
    above : (n : ℕ) → n ≢ 0 → 0 < n
    above n e = omega (arith, e)

module _ (units x y : ℕ) (col : List ℕ) (bytes : AreBytes col) (rising : x < y) (unit : x < units) (last : y < units + 2)
    (few : units ≤ 255) (wide : length col ≡ units + 2) where
  abbrev cleared_both : List ℕ
  cleared_both = set (set col x 0) y 0

  abbrev both : List ℕ
  both = repaired_column units (first_repair units x y) (second_repair units x y) cleared_both

  repairs : AreRepairs units x y (first_repair units x y) (second_repair units x y)
  repairs = two_repairs units x y rising unit last few

  first_long : length (set col x 0) ≡ length col
  first_long = length-set col x 0

  cleared_long : length cleared_both ≡ length col
  cleared_long = length-set (set col x 0) y 0 ∙ first_long

  cleared_bytes : AreBytes cleared_both
  cleared_bytes =
      All-set (λ (d : ℕ). d < 256) (set col x 0) y 0 (omega arith)
      (All-set (λ (d : ℕ). d < 256) col x 0 (omega arith) bytes)

  sum_lt : (a b p q : ℕ) → a < 256 → b < 256 → bit_xor (product a p) (product b q) < 256
  sum_lt a b p q a_lt b_lt = xor_of_8 (product a p) (product b q) (product_lt a p a_lt) (product_lt b q b_lt)

  abbrev p : ℕ
  p = p_syndrome units cleared_both

  abbrev q : ℕ
  q = q_syndrome units cleared_both

  both_bytes : AreBytes both
  both_bytes =
      All-set (λ (d : ℕ). d < 256) (set cleared_both (first_repair units x y).row (repaired (first_repair units x y) p q))
      (second_repair units x y).row (repaired (second_repair units x y) p q)
      (sum_lt (second_repair units x y).by_p (second_repair units x y).by_q p q repairs.other_by_p_lt repairs.other_by_q_lt)
      (All-set (λ (d : ℕ). d < 256) cleared_both (first_repair units x y).row (repaired (first_repair units x y) p q)
      (sum_lt (first_repair units x y).by_p (first_repair units x y).by_q p q repairs.by_p_lt repairs.by_q_lt) cleared_bytes)

  both_long : length both ≡ length col
  both_long =
      length-set (set cleared_both (first_repair units x y).row (repaired (first_repair units x y) p q))
      (second_repair units x y).row (repaired (second_repair units x y) p q)
      ∙ length-set cleared_both (first_repair units x y).row (repaired (first_repair units x y) p q) ∙ cleared_long

  both_solved : HasNoSyndrome units both
  both_solved =
      two_solved units x y (first_repair units x y) (second_repair units x y) cleared_both repairs cleared_bytes rising
      (omega (arith, last, wide, cleared_long))
      (cleared_long ∙ wide)
      (get_or-set_other (set col x 0) y x 0 0 (λ e. absurd (omega (arith, e, rising)))
      ∙ get_or-set_same col x 0 0 (omega (arith, unit, wide)))
      (get_or-set_same (set col x 0) y 0 0 (omega (arith, last, wide, first_long)))

  both_codeword : both ≡ codeword PandQ (take units both)
  both_codeword = codeword_by_syndromes PandQ units both (omega arith) (both_long ∙ wide) both_solved

  both_other : (k : ℕ) → k ≢ x → k ≢ y → get_or both k 0 ≡ get_or col k 0
  both_other k nx ny =
      get_or-set_other (set cleared_both (first_repair units x y).row (repaired (first_repair units x y) p q))
      (second_repair units x y).row k (repaired (second_repair units x y) p q) 0
      (subst (λ (i : ℕ). k ≢ i) (sym repairs.other_row) ny)
      ∙ get_or-set_other cleared_both (first_repair units x y).row k (repaired (first_repair units x y) p q) 0
      (subst (λ (i : ℕ). k ≢ i) (sym repairs.row) nx)
      ∙ get_or-set_other (set col x 0) y k 0 0 ny ∙ get_or-set_other col x k 0 0 nx

  two_has : HasData PandQ units (x ∷ y ∷ []) col (take units (decoded units (x ∷ y ∷ []) col))
  unfolding decoded
  two_has = record {
    bytes = first_bytes units both (omega (arith, both_long, wide)) both_bytes;
    long = length-take-le units both (omega (arith, both_long, wide));
    same = λ k lt other.
        let first = not_here x k (y ∷ []) other in
        let second = not_here y k [] first.1 in
        ap (λ (xs : List ℕ). get_or xs k 0) (sym both_codeword) ∙ both_other k first.0 second.0;
  }

-- ---- as many as there is parity, of which one is of data

-- the first lost is a unit of data
abbrev pub BeginsWithData : (units : ℕ) → List ℕ → Type 0
BeginsWithData units [] = ⊥
BeginsWithData units (x ∷ xs) = x < units

pub has_data : (code : Code) (units : ℕ) (lost col : List ℕ) → AreBytes col → units ≤ 255 → AreLost code units lost
    → BeginsWithData units lost → length col ≡ units + count_of code
    → HasData code units lost col (take units (decoded units lost col))
has_data code units [] col bytes few are low wide = absurd low
has_data code units (x ∷ []) col bytes few are low wide =
    one_has units x col bytes low (omega (arith, are.0, wide)) code are.0
has_data Plain units (x ∷ y ∷ []) col bytes few are low wide = absurd (omega (arith, are.0))
has_data Xor units (x ∷ y ∷ []) col bytes few are low wide = absurd (omega (arith, are.0))
has_data PandQ units (x ∷ y ∷ []) col bytes few are low wide = two_has units x y col bytes are.1 low are.2 few wide
has_data code units (x ∷ y ∷ z ∷ zs) col bytes few are low wide = absurd are

-- ---- no other data have as much

pub only_data : (code : Code) (ds es lost : List ℕ) → AreBytes ds → AreBytes es → length es ≡ length ds → length ds ≤ 255
    → AreLost code (length ds) lost
    → ((k : ℕ) → k < length ds + count_of code → ¬ Contains lost k
    → get_or (codeword code es) k 0 ≡ get_or (codeword code ds) k 0)
    → es ≡ ds
only_data code ds es lost d_bytes e_bytes long few are same =
    let wide : length (codeword code ds) ≡ length ds + count_of code = length_codeword code ds in
    let e_wide : length (codeword code es) ≡ length ds + count_of code =
    length_codeword code es ∙ ap (λ (n : ℕ). n + count_of code) long in
    let agree : AgreeOutside lost (codeword code ds) (codeword code es) = record {
      long = wide ∙ sym e_wide;
      same = λ k none. elim (cases_lt k (length ds + count_of code)) [
        | inl low ↦ sym (same k low none)
        | inr past ↦
            get_or_past (codeword code ds) k 0 (omega (arith, past, wide))
            ∙ sym (get_or_past (codeword code es) k 0 (omega (arith, past, e_wide)))
      ];
    } in
    let self : AgreeOutside lost (codeword code es) (codeword code es) = record { long = refl; same = λ k none. refl } in
    let words : codeword code es ≡ codeword code ds =
    sym (decoded_back code es lost (codeword code es) e_bytes (omega (arith, long, few))
    (subst (λ (n : ℕ). AreLost code n lost) (sym long) are) self)
    ∙ ap (λ (n : ℕ). decoded n lost (codeword code es)) long
    ∙ decoded_back code ds lost (codeword code es) d_bytes few are agree in
    sym (data_first code es) ∙ ap (λ (n : ℕ). take n (codeword code es)) long ∙ ap (take (length ds)) words
    ∙ data_first code ds
