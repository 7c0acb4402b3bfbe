-- Columns whose lost bytes are repaired.
use Rattle.std.proofs.Common.{◌≡◌, ℕ, ◌+◌, ◌<◌, ◌≤◌, List, length, get_or, set, refl, sym, ap, ◌∙◌, arith, inl, inr}
use Rattle.std.specs.Prelude.{bit_xor}
use Rattle.std.specs.Int.Bits.{xor_assoc, xor_zero_r, xor_zero_l, xor_self}
use Rattle.std.proofs.lemmas.Nat.{xor_of_8}
use Rattle.std.proofs.lemmas.Bool.{cases_lt, cases_eq}
use Rattle.std.proofs.lemmas.List.{length-set, get_or-set_other, set-get_or, set-set}
use Rattle.std.proofs.lemmas.Grind.{get_or-set_at, same_number_lists}
use Rattle.gf256.specs.Field.{product}
use Rattle.gf256.proofs.Sums.{xor_swap}
use Rattle.gf256.proofs.Computed.{one_product}
use Rattle.gf256.proofs.Product.{product-xor, product_lt, zero_product, product_one}
use Rattle.gf256.proofs.Laws.{product_assoc, xor-product}
use Rattle.parity_code.specs.declared.repair.Repair.{Repair}
use Rattle.parity_code.specs.Syndromes.{p_syndrome, q_syndrome, p_weight, q_weight, IsWhole, HasNoSyndrome}
use Rattle.parity_code.specs.Repairs.{repaired, repaired_column, IsRepair, AreRepairs}
use Rattle.parity_code.proofs.ParityLaws.{AreBytes}
use Rattle.parity_code.proofs.SyndromeLaws.{p_syndrome_set, q_syndrome_set, p_weight_below, p_weight_lt, q_weight_lt, p_syndrome_lt, q_syndrome_lt}

-- the columns that a kernel writes are those of the repairs
pub both_repaired : (units i j : ℕ) (r s : Repair) (col : List ℕ) (f h p q : ℕ) → i ≡ r.row → j ≡ s.row → f ≡ repaired r p q →
    h ≡ repaired s p q
    → p ≡ p_syndrome units col → q ≡ q_syndrome units col → set (set col i f) j h ≡ repaired_column units r s col
both_repaired units i j r s col f h p q is_i is_j is_f is_h is_p is_q = rw (is_i, is_j, is_f, is_h, is_p, is_q) refl

pub xor_move : (a b c : ℕ) → bit_xor a b ≡ c → a ≡ bit_xor c b
xor_move a b c e = sym (xor_zero_r a) ∙ ap (bit_xor a) (sym (xor_self b)) ∙ sym (xor_assoc a b b) ∙ ap (λ (n : ℕ). bit_xor n b) e

-- a byte through both syndromes
weighted : (a b p q v : ℕ) → a < 256 → b < 256 → p < 256 → q < 256 → v < 256 →
    bit_xor (product a (product p v)) (product b (product q v)) ≡ product (bit_xor (product a p) (product b q)) v
weighted a b p q v a_lt b_lt p_lt q_lt v_lt =
    rw (← product_assoc a p v a_lt p_lt, ← product_assoc b q v b_lt q_lt)
    (sym (xor-product (product a p) (product b q) v (product_lt a p a_lt) (product_lt b q b_lt) v_lt))

-- two bytes through both syndromes
both_weighted : (a b p1 p2 q1 q2 v u : ℕ) → a < 256 → b < 256 → p1 < 256 → p2 < 256 → q1 < 256 → q2 < 256 → v < 256 → u < 256
    → bit_xor (product a (bit_xor (product p1 v) (product p2 u))) (product b (bit_xor (product q1 v) (product q2 u)))
    ≡ bit_xor (product (bit_xor (product a p1) (product b q1)) v) (product (bit_xor (product a p2) (product b q2)) u)
both_weighted a b p1 p2 q1 q2 v u a_lt b_lt p1_lt p2_lt q1_lt q2_lt v_lt u_lt =
    rw (
      product-xor a (product p1 v) (product p2 u),
      product-xor b (product q1 v) (product q2 u),
      ← weighted a b p1 q1 v a_lt b_lt p1_lt q1_lt v_lt,
      ← weighted a b p2 q2 u a_lt b_lt p2_lt q2_lt u_lt,
    )
    (xor_swap (product a (product p1 v)) (product a (product p2 u)) (product b (product q1 v)) (product b (product q2 u)))

-- the syndromes of a column without byte x, from those of the column
p_without : (units x n : ℕ) (col : List ℕ) → x < length col → units < length col → get_or col x 0 < 256 → p_syndrome units col ≡ n
    → p_syndrome units (set col x 0) ≡ bit_xor n (product (p_weight units x) (get_or col x 0))
p_without units x n col lt room byte e =
    xor_move (p_syndrome units (set col x 0)) (product (p_weight units x) (get_or col x 0)) n
    (sym (p_syndrome_set units x (get_or col x 0) col lt room byte) ∙ ap (p_syndrome units) (set-get_or col x 0) ∙ e)

q_without : (units x n : ℕ) (col : List ℕ) → x < length col → length col ≡ units + 2 → get_or col x 0 < 256 →
    q_syndrome units col ≡ n
    → q_syndrome units (set col x 0) ≡ bit_xor n (product (q_weight units x) (get_or col x 0))
q_without units x n col lt long byte e =
    xor_move (q_syndrome units (set col x 0)) (product (q_weight units x) (get_or col x 0)) n
    (sym (q_syndrome_set units x (get_or col x 0) col lt long byte) ∙ ap (q_syndrome units) (set-get_or col x 0) ∙ e)

-- one lost byte comes back
repaired_byte : (units x : ℕ) (r : Repair) (col : List ℕ) → IsRepair units x r → IsWhole units col → x < length col →
    units < length col → length col ≤ units + 2
    → repaired r (p_syndrome units (set col x 0)) (q_syndrome units (set col x 0)) ≡ get_or col x 0
repaired_byte units x r col repair whole lt room most =
    let v : ℕ = get_or col x 0 in
    let byte : v < 256 = whole.bytes x 0 lt in
    let p : p_syndrome units (set col x 0) ≡ product (p_weight units x) v =
    p_without units x 0 col lt room byte whole.p ∙ xor_zero_l (product (p_weight units x) v) in
    elim (cases_lt units x) [
      | inl above ↦
          let q : q_syndrome units (set col x 0) ≡ product (q_weight units x) v =
          q_without units x 0 col lt (omega arith) byte (whole.q (omega arith)) ∙ xor_zero_l (product (q_weight units x) v) in
          rw (p, q) (weighted r.by_p r.by_q (p_weight units x) (q_weight units x) v repair.by_p_lt repair.by_q_lt
          (p_weight_lt units x) (q_weight_lt units x) byte
          ∙ ap (λ (n : ℕ). product n v) repair.whole ∙ one_product v byte)
      | inr below ↦
          let none : r.by_q ≡ 0 = repair.plain below in
          let share_p : product r.by_p (p_weight units x) ≡ 1 =
          sym (xor_zero_r (product r.by_p (p_weight units x))) ∙ rw (none, zero_product (q_weight units x)) at repair.whole in
          rw (p, none, zero_product (q_syndrome units (set col x 0)), xor_zero_r (product r.by_p (product (p_weight units x) v)))
          (sym (product_assoc r.by_p (p_weight units x) v repair.by_p_lt (p_weight_lt units x))
          ∙ ap (λ (n : ℕ). product n v) share_p ∙ one_product v byte)
    ]

pub one_restored : (units x : ℕ) (r : Repair) (col : List ℕ) → IsRepair units x r → IsWhole units col → x < length col →
    units < length col → length col ≤ units + 2
    → repaired_column units r r (set col x 0) ≡ col
one_restored units x r col repair whole lt room most =
    rw (
      repaired_byte units x r col repair whole lt room most,
      repair.row,
      set-set (set col x 0) x (get_or col x 0) (get_or col x 0),
      set-set col x 0 (get_or col x 0),
    ) (set-get_or col x 0)

-- both lost bytes come back
repaired_bytes : (units x y : ℕ) (r s : Repair) (col : List ℕ) → AreRepairs units x y r s → IsWhole units col → x < y →
    y < length col → length col ≡ units + 2
    → (repaired r (p_syndrome units (set (set col x 0) y 0)) (q_syndrome units (set (set col x 0) y 0)) ≡ get_or col x 0)
    × (repaired s (p_syndrome units (set (set col x 0) y 0)) (q_syndrome units (set (set col x 0) y 0)) ≡ get_or col y 0)
repaired_bytes units x y r s col repairs whole rising lt long =
    let v : ℕ = get_or col x 0 in
    let u : ℕ = get_or col y 0 in
    let v_lt : v < 256 = whole.bytes x 0 (omega arith) in
    let u_lt : u < 256 = whole.bytes y 0 lt in
    let first : List ℕ = set col x 0 in
    let first_long : length first ≡ length col = length-set col x 0 in
    let same_u : get_or first y 0 ≡ u = get_or-set_other col x y 0 0 (λ e. omega arith) in
    let first_lt : get_or first y 0 < 256 = rw same_u u_lt in
    let p : p_syndrome units (set first y 0) ≡ bit_xor (product (p_weight units x) v) (product (p_weight units y) u) =
    rw same_u at
    (p_without units y (product (p_weight units x) v) first (omega arith) (omega arith) first_lt
    (p_without units x 0 col (omega arith) (omega arith) v_lt whole.p ∙ xor_zero_l (product (p_weight units x) v))) in
    let q : q_syndrome units (set first y 0) ≡ bit_xor (product (q_weight units x) v) (product (q_weight units y) u) =
    rw same_u at
    (q_without units y (product (q_weight units x) v) first (omega arith) (omega arith) first_lt
    (q_without units x 0 col (omega arith) long v_lt (whole.q (omega arith)) ∙ xor_zero_l (product (q_weight units x) v))) in
    rw (p, q) (
      both_weighted r.by_p r.by_q (p_weight units x) (p_weight units y) (q_weight units x)
          (q_weight units y) v u repairs.by_p_lt repairs.by_q_lt (p_weight_lt units x) (p_weight_lt units y) (q_weight_lt units x)
          (q_weight_lt units y) v_lt u_lt
          ∙ rw (repairs.whole, repairs.none_of_other, one_product v v_lt, zero_product u) (xor_zero_r v),
      both_weighted s.by_p s.by_q (p_weight units x) (p_weight units y) (q_weight units x)
          (q_weight units y) v u repairs.other_by_p_lt repairs.other_by_q_lt (p_weight_lt units x) (p_weight_lt units y)
          (q_weight_lt units x) (q_weight_lt units y) v_lt u_lt
          ∙ rw (repairs.none, repairs.other_whole, one_product u u_lt, zero_product v) (xor_zero_l u),
    )

-- two positions that were overwritten, filled in again
filled_again : (x y : ℕ) (col : List ℕ) → x < y → y < length col →
    set (set (set (set col x 0) y 0) x (get_or col x 0)) y (get_or col y 0) ≡ col
filled_again x y col rising lt =
    let c1 : List ℕ = set col x 0 in
    let c2 : List ℕ = set c1 y 0 in
    let c3 : List ℕ = set c2 x (get_or col x 0) in
    let l1 : length c1 ≡ length col = length-set col x 0 in
    let l2 : length c2 ≡ length col = length-set c1 y 0 ∙ l1 in
    let l3 : length c3 ≡ length col = length-set c2 x (get_or col x 0) ∙ l2 in
    same_number_lists (set c3 y (get_or col y 0)) col (length-set c3 y (get_or col y 0) ∙ l3) (λ k k_lt.
    elim (cases_eq k y) [
      | inl same ↦ get_or-set_at c3 y k (get_or col y 0) 0 same (omega arith) ∙ ap (λ (i : ℕ). get_or col i 0) (sym same)
      | inr other ↦ get_or-set_other c3 y k (get_or col y 0) 0 other ∙ elim (cases_eq k x) [
        | inl same ↦ get_or-set_at c2 x k (get_or col x 0) 0 same (omega arith) ∙ ap (λ (i : ℕ). get_or col i 0) (sym same)
        | inr third ↦ get_or-set_other c2 x k (get_or col x 0) 0 third ∙ get_or-set_other c1 y k 0 0 other
            ∙ get_or-set_other col x k 0 0 third
      ]
    ])

pub two_restored : (units x y : ℕ) (r s : Repair) (col : List ℕ) → AreRepairs units x y r s → IsWhole units col → x < y →
    y < length col → length col ≡ units + 2
    → repaired_column units r s (set (set col x 0) y 0) ≡ col
two_restored units x y r s col repairs whole rising lt long =
    let bytes = repaired_bytes units x y r s col repairs whole rising lt long in
    rw (bytes.0, bytes.1, repairs.row, repairs.other_row) (filled_again x y col rising lt)

-- a byte that is 0, replaced
p_filled : (units x v : ℕ) (col : List ℕ) → x < length col → units < length col → v < 256 → get_or col x 0 ≡ 0 →
    p_syndrome units (set col x v) ≡ bit_xor (p_syndrome units col) (product (p_weight units x) v)
p_filled units x v col lt room byte none =
    p_syndrome_set units x v col lt room byte
    ∙ ap (λ (c : List ℕ). bit_xor (p_syndrome units c) (product (p_weight units x) v))
    (ap (set col x) (sym none) ∙ set-get_or col x 0)

q_filled : (units x v : ℕ) (col : List ℕ) → x < length col → length col ≡ units + 2 → v < 256 → get_or col x 0 ≡ 0 →
    q_syndrome units (set col x v) ≡ bit_xor (q_syndrome units col) (product (q_weight units x) v)
q_filled units x v col lt long byte none =
    q_syndrome_set units x v col lt long byte
    ∙ ap (λ (c : List ℕ). bit_xor (q_syndrome units c) (product (q_weight units x) v))
    (ap (set col x) (sym none) ∙ set-get_or col x 0)

-- a lone row of parity, and one repaired row: no syndrome is left
pub one_solved : (units x : ℕ) (r : Repair) (col : List ℕ) → IsRepair units x r → AreBytes col → x ≤ units →
    length col ≡ units + 1 → get_or col x 0 ≡ 0 → HasNoSyndrome units (repaired_column units r r col)
one_solved units x r col repair bytes le long none =
    let p : ℕ = p_syndrome units col in
    let p_lt : p < 256 = p_syndrome_lt units col bytes in
    let plain : r.by_q ≡ 0 = repair.plain le in
    let weight : p_weight units x ≡ 1 = p_weight_below units x le in
    let once : r.by_p ≡ 1 =
    sym (xor_zero_r r.by_p) ∙ rw (weight, plain, zero_product (q_weight units x), product_one r.by_p) at repair.whole in
    let value : repaired r p (q_syndrome units col) ≡ p =
    rw (once, plain, zero_product (q_syndrome units col), one_product p p_lt) (xor_zero_r p) in
    let filled : repaired_column units r r col ≡ set col x p = rw (value, repair.row) (set-set col x p p) in
    rw filled (record {
      p = p_filled units x p col (omega arith) (omega arith) p_lt none ∙ rw (weight, one_product p p_lt) (xor_self p);
      q = λ lt. absurd (omega (arith, length-set col x p));
    })

-- two rows of parity, and two repaired rows
two_filled : (units x y v u : ℕ) (col : List ℕ) → x < y → y < length col → length col ≡ units + 2 → v < 256 → u < 256 →
    get_or col x 0 ≡ 0 → get_or col y 0 ≡ 0
    → (p_syndrome units (set (set col x v) y u) ≡ bit_xor (p_syndrome units col)
    (bit_xor (product (p_weight units x) v) (product (p_weight units y) u)))
    × (q_syndrome units (set (set col x v) y u) ≡ bit_xor (q_syndrome units col)
    (bit_xor (product (q_weight units x) v) (product (q_weight units y) u)))
two_filled units x y v u col rising lt long v_lt u_lt none none_other =
    let first : List ℕ = set col x v in
    let first_long : length first ≡ length col = length-set col x v in
    let still : get_or first y 0 ≡ 0 = get_or-set_other col x y v 0 (λ e. omega arith) ∙ none_other in (
      p_filled units y u first (omega arith) (omega arith) u_lt still
          ∙ ap (λ (n : ℕ). bit_xor n (product (p_weight units y) u))
          (p_filled units x v col (omega arith) (omega arith) v_lt none)
          ∙ xor_assoc (p_syndrome units col) (product (p_weight units x) v) (product (p_weight units y) u),
      q_filled units y u first (omega arith) (omega arith) u_lt still
          ∙ ap (λ (n : ℕ). bit_xor n (product (q_weight units y) u)) (q_filled units x v col (omega arith) long v_lt none)
          ∙ xor_assoc (q_syndrome units col) (product (q_weight units x) v) (product (q_weight units y) u),
    )

repaired_lt : (r : Repair) (p q : ℕ) → r.by_p < 256 → r.by_q < 256 → repaired r p q < 256
repaired_lt r p q p_lt q_lt = xor_of_8 (product r.by_p p) (product r.by_q q) (product_lt r.by_p p p_lt) (product_lt r.by_q q q_lt)

pub two_solved : (units x y : ℕ) (r s : Repair) (col : List ℕ) → AreRepairs units x y r s → AreBytes col → x < y →
    y < length col → length col ≡ units + 2 → get_or col x 0 ≡ 0 → get_or col y 0 ≡ 0
    → HasNoSyndrome units (repaired_column units r s col)
two_solved units x y r s col repairs bytes rising lt long none none_other =
    let p : ℕ = p_syndrome units col in
    let q : ℕ = q_syndrome units col in
    let p_lt : p < 256 = p_syndrome_lt units col bytes in
    let q_lt : q < 256 = q_syndrome_lt units col bytes in
    let filled =
    two_filled units x y (repaired r p q) (repaired s p q) col rising lt long
    (repaired_lt r p q repairs.by_p_lt repairs.by_q_lt)
    (repaired_lt s p q repairs.other_by_p_lt repairs.other_by_q_lt) none none_other in
    rw (repairs.row, repairs.other_row) (record {
      p = filled.0
          ∙ ap (bit_xor p)
          (both_weighted (p_weight units x) (p_weight units y) r.by_p r.by_q s.by_p s.by_q p q (p_weight_lt units x)
          (p_weight_lt units y) repairs.by_p_lt repairs.by_q_lt repairs.other_by_p_lt repairs.other_by_q_lt p_lt q_lt
          ∙ rw (repairs.p_of_p, repairs.p_of_q, one_product p p_lt, zero_product q) (xor_zero_r p)) ∙ xor_self p;
      q = λ _. filled.1
          ∙ ap (bit_xor q)
          (both_weighted (q_weight units x) (q_weight units y) r.by_p r.by_q s.by_p s.by_q p q (q_weight_lt units x)
          (q_weight_lt units y) repairs.by_p_lt repairs.by_q_lt repairs.other_by_p_lt repairs.other_by_q_lt p_lt q_lt
          ∙ rw (repairs.q_of_p, repairs.q_of_q, one_product q q_lt, zero_product p) (xor_zero_l q)) ∙ xor_self q;
    })
