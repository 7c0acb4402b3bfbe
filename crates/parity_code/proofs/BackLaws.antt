-- Any column that agrees with a codeword at its other positions is decoded to that codeword.
use Rattle.std.proofs.Common.{◌≡◌, ℕ, ◌+◌, ◌<◌, ◌≤◌, List, [], ◌∷◌, length, refl, sym, ap, ◌∙◌, arith, inl, inr}
use Rattle.std.proofs.lemmas.Bool.{cases_eq, cases_lt, lt-ltb, le-ltb, eq-eqb, ne_eqb}
use Rattle.std.proofs.lemmas.Nat.{xor_of_8}
use Rattle.std.specs.Prelude.{bit_xor}
use Rattle.gf256.specs.Field.{product, two_to, inverse_of}
use Rattle.gf256.proofs.Product.{product_lt}
use Rattle.gf256.proofs.Laws.{two_to_lt, two_to_pos}
use Rattle.gf256.proofs.Inverses.{inverse_is}
use Rattle.parity_code.specs.declared.code.Code.{Code}
use Rattle.parity_code.specs.Codeword.{count_of, codeword, AgreeOutside}
use Rattle.parity_code.specs.Repairs.{repaired_column, repair_of, first_repair, second_repair, IsRepair, AreRepairs}
use Rattle.parity_code.specs.Decoding.{decoded}
use Rattle.parity_code.proofs.ParityLaws.{AreBytes}
use Rattle.parity_code.proofs.RepairLaws.{repair_by_p, repair_by_q, repairs_with_p, repairs_with_q, repairs_of_both, repairs_of_units, powers_apart}
use Rattle.parity_code.proofs.RestoreLaws.{one_restored, two_restored}
use Rattle.parity_code.proofs.StripeLaws.{same_without_one, same_without_two}
use Rattle.parity_code.proofs.DecodeLaws.{length_codeword, codeword_whole, count_most, none_lost}

-- at most as many rows as there is parity, rising and below the length
abbrev pub AreLost : Code → (units : ℕ) → List ℕ → Type 0
AreLost code units [] = Unit {0}
AreLost code units (x ∷ []) = (0 < count_of code) × (x < units + count_of code)
AreLost code units (x ∷ y ∷ []) = (count_of code ≡ 2) × (x < y) × (y < units + 2)
AreLost code units (x ∷ y ∷ z ∷ zs) = ⊥

one_repairs : (units x : ℕ) → IsRepair units x (repair_of units x)
unfolding repair_of
one_repairs units x = elim (cases_lt units x) [
  | inl lt ↦ rw (lt-ltb units x lt) (repair_by_q units x lt)
  | inr le ↦ rw (le-ltb units x le) (repair_by_p units x le)
]

above_zero : (n : ℕ) → (n ≡ 0 → ⊥) → 0 < n
above_zero n e = omega (arith, e)

two_repairs : (units x y : ℕ) → x < y → y ≤ units + 1 → units ≤ 255 →
    AreRepairs units x y (first_repair units x y) (second_repair units x y)
unfolding first_repair second_repair
two_repairs units x y lt last few = elim (cases_lt y units) [
  | inl inside ↦ rw (lt-ltb y units inside) (
      let sum_lt = xor_of_8 (two_to x) (two_to y) (two_to_lt x) (two_to_lt y) in
      let pos : 0 < bit_xor (two_to x) (two_to y) =
      above_zero (bit_xor (two_to x) (two_to y)) (powers_apart x y lt (omega (arith, inside, few))) in
      let inv = inverse_is (bit_xor (two_to x) (two_to y)) pos sum_lt in
      repairs_of_units units x y (inverse_of (bit_xor (two_to x) (two_to y)))
      (product (inverse_of (bit_xor (two_to x) (two_to y))) (two_to y)) lt inside inv.1
      (product_lt (inverse_of (bit_xor (two_to x) (two_to y))) (two_to y) inv.1) inv.0 refl)
  | inr past ↦ elim (cases_eq y units) [
    | inl same ↦
        let inv = inverse_is (two_to x) (two_to_pos x) (two_to_lt x) in
        rw (le-ltb y units past, eq-eqb y units same)
        (repairs_with_p units x y (inverse_of (two_to x)) (omega (arith, lt, same)) same inv.1 inv.0)
    | inr apart ↦ elim (cases_lt x units) [
      | inl below ↦ rw (le-ltb y units past, ne_eqb y units apart, lt-ltb x units below)
          (repairs_with_q units x y below (omega (arith, past, apart)))
      | inr beside ↦ rw (le-ltb y units past, ne_eqb y units apart, le-ltb x units beside)
          (repairs_of_both units x y (omega (arith, beside, lt, last)) (omega (arith, past, apart)))
    ]
  ]
]

pub decoded_back : (code : Code) (ds lost col : List ℕ) → AreBytes ds → length ds ≤ 255 → AreLost code (length ds) lost →
    AgreeOutside lost (codeword code ds) col → decoded (length ds) lost col ≡ codeword code ds
unfolding decoded
decoded_back code ds [] col bytes few lost agree = none_lost (codeword code ds) col agree
decoded_back code ds (x ∷ []) col bytes few lost agree =
    let long = length_codeword code ds in
    ap (repaired_column (length ds) (repair_of (length ds) x) (repair_of (length ds) x))
    (same_without_one x (codeword code ds) col agree (omega (arith, lost.1, long)))
    ∙ one_restored (length ds) x (repair_of (length ds) x) (codeword code ds) (one_repairs (length ds) x)
    (codeword_whole code ds lost.0 bytes) (omega (arith, lost.1, long)) (omega (arith, lost.0, long))
    (omega (arith, count_most code, long))
decoded_back code ds (x ∷ y ∷ []) col bytes few lost agree =
    let long = length_codeword code ds in
    ap (repaired_column (length ds) (first_repair (length ds) x y) (second_repair (length ds) x y))
    (same_without_two x y (codeword code ds) col agree (omega (arith, lost.0, lost.1, lost.2, long))
    (omega (arith, lost.0, lost.2, long)))
    ∙ two_restored (length ds) x y (first_repair (length ds) x y) (second_repair (length ds) x y) (codeword code ds)
    (two_repairs (length ds) x y lost.1 (omega (arith, lost.2)) few) (codeword_whole code ds (omega (arith, lost.0)) bytes)
    lost.1 (omega (arith, lost.0, lost.2, long)) (omega (arith, lost.0, long))
decoded_back code ds (x ∷ y ∷ z ∷ zs) col bytes few lost agree = absurd lost
