-- The weights of the lost positions in their repairs.
use Rattle.std.proofs.Common.{◌≡◌, ◌≢◌, ℕ, ◌<◌, ◌≤◌, refl, sym, ap, ◌∙◌, arith}
use Rattle.std.specs.Prelude.{bit_xor}
use Rattle.std.specs.Int.Bits.{xor_assoc, xor_self}
use Rattle.std.proofs.lemmas.Nat.{xor_comm, xor_of_8}
use Rattle.std.proofs.lemmas.Bool.{lt-ltb, le-ltb, eq-eqb, ne_eqb}
use Rattle.gf256.specs.Field.{product, two_to, inverse_of}
use Rattle.gf256.proofs.Sums.{xor_cancel, xor-eq-zero}
use Rattle.gf256.proofs.Computed.{one_product}
use Rattle.gf256.proofs.Product.{product-xor, product_zero, zero_product, product_one}
use Rattle.gf256.proofs.Laws.{two_to_lt, two_to_injective, product_comm, product_assoc, xor-product}
use Rattle.parity_code.specs.Syndromes.{p_weight, q_weight}
use Rattle.parity_code.specs.Repairs.{repair_of, first_repair, second_repair, IsRepair, AreRepairs}
use Rattle.parity_code.specs.declared.repair.Repair.{Repair}
use Rattle.parity_code.proofs.SyndromeLaws.{xor_right_comm, p_weight_below, p_weight_above, q_weight_below, q_weight_at, q_weight_above}

-- of one row but Q's, by the first syndrome
pub repair_by_p : (units x : ℕ) → x ≤ units → IsRepair units x (record { row = x; by_p = 1; by_q = 0 })
repair_by_p units x le = record {
  row = refl;
  whole = rw (p_weight_below units x le, zero_product (q_weight units x), product_one 1) refl;
  plain = λ _. refl;
  by_p_lt = omega arith;
  by_q_lt = omega arith;
}

-- of Q's row, by the second
pub repair_by_q : (units x : ℕ) → units < x → IsRepair units x (record { row = x; by_p = 0; by_q = 1 })
repair_by_q units x lt = record {
  row = refl;
  whole = rw (q_weight_above units x lt, zero_product (p_weight units x), product_one 1) refl;
  plain = λ le. absurd (omega arith);
  by_p_lt = omega arith;
  by_q_lt = omega arith;
}

-- of one unit and P
pub repairs_with_p : (units x y inverse : ℕ) → x < units → y ≡ units → inverse < 256 → product (two_to x) inverse ≡ 1
    → AreRepairs units x y (record { row = x; by_p = 0; by_q = inverse }) (record { row = y; by_p = 1; by_q = inverse })
repairs_with_p units x y inverse lt same byte e =
    let once : product inverse (two_to x) ≡ 1 = product_comm inverse (two_to x) byte (two_to_lt x) ∙ e in
    record {
      row = refl;
      other_row = refl;
      whole = rw (p_weight_below units x (omega arith), q_weight_below units x lt, once, zero_product 1) refl;
      none_of_other =
          rw (p_weight_below units y (omega arith), q_weight_at units y same, product_zero inverse, zero_product 1) refl;
      none = rw (p_weight_below units x (omega arith), q_weight_below units x lt, once, product_one 1) refl;
      other_whole = rw (p_weight_below units y (omega arith), q_weight_at units y same, product_zero inverse, product_one 1) refl;
      p_of_p = rw (p_weight_below units x (omega arith), p_weight_below units y (omega arith), product_zero 1, product_one 1)
          refl;
      p_of_q = rw (p_weight_below units x (omega arith), p_weight_below units y (omega arith)) (xor_self (product 1 inverse));
      q_of_p = rw (q_weight_below units x lt, q_weight_at units y same, product_zero (two_to x), zero_product 1) refl;
      q_of_q = rw (q_weight_below units x lt, q_weight_at units y same, e, zero_product inverse) refl;
      by_p_lt = omega arith;
      by_q_lt = byte;
      other_by_p_lt = omega arith;
      other_by_q_lt = byte;
    }

-- of one unit and Q
pub repairs_with_q : (units x y : ℕ) → x < units → units < y →
    AreRepairs units x y (record { row = x; by_p = 1; by_q = 0 }) (record { row = y; by_p = two_to x; by_q = 1 })
repairs_with_q units x y lt above = record {
  row = refl;
  other_row = refl;
  whole = rw (p_weight_below units x (omega arith), q_weight_below units x lt, zero_product (two_to x), product_one 1) refl;
  none_of_other = rw (p_weight_above units y above, q_weight_above units y above, zero_product 1, product_zero 1) refl;
  none = rw (
    p_weight_below units x (omega arith),
    q_weight_below units x lt,
    product_one (two_to x),
    one_product (two_to x) (two_to_lt x),
  ) (xor_self (two_to x));
  other_whole = rw (p_weight_above units y above, q_weight_above units y above, product_zero (two_to x), product_one 1) refl;
  p_of_p = rw (p_weight_below units x (omega arith), p_weight_above units y above, product_one 1, zero_product (two_to x)) refl;
  p_of_q = rw (p_weight_below units x (omega arith), p_weight_above units y above, product_zero 1, zero_product 1) refl;
  q_of_p = rw (
    q_weight_below units x lt,
    q_weight_above units y above,
    product_one (two_to x),
    one_product (two_to x) (two_to_lt x),
  ) (xor_self (two_to x));
  q_of_q = rw (q_weight_below units x lt, q_weight_above units y above, product_zero (two_to x), product_one 1) refl;
  by_p_lt = omega arith;
  by_q_lt = omega arith;
  other_by_p_lt = two_to_lt x;
  other_by_q_lt = omega arith;
}

-- of P and Q
pub repairs_of_both : (units x y : ℕ) → x ≡ units → units < y →
    AreRepairs units x y (record { row = x; by_p = 1; by_q = 0 }) (record { row = y; by_p = 0; by_q = 1 })
repairs_of_both units x y same above = record {
  row = refl;
  other_row = refl;
  whole = rw (p_weight_below units x (omega arith), q_weight_at units x same, product_zero 0, product_one 1) refl;
  none_of_other = rw (p_weight_above units y above, q_weight_above units y above, zero_product 1, product_zero 1) refl;
  none = rw (p_weight_below units x (omega arith), q_weight_at units x same, product_zero 1, zero_product 1) refl;
  other_whole = rw (p_weight_above units y above, q_weight_above units y above, product_zero 0, product_one 1) refl;
  p_of_p = rw (p_weight_below units x (omega arith), p_weight_above units y above, product_one 1, product_zero 0) refl;
  p_of_q = rw (p_weight_below units x (omega arith), p_weight_above units y above, product_zero 1, zero_product 1) refl;
  q_of_p = rw (q_weight_at units x same, q_weight_above units y above, zero_product 1, product_zero 1) refl;
  q_of_q = rw (q_weight_at units x same, q_weight_above units y above, product_zero 0, product_one 1) refl;
  by_p_lt = omega arith;
  by_q_lt = omega arith;
  other_by_p_lt = omega arith;
  other_by_q_lt = omega arith;
}

-- distinct powers have a sum that isn't 0
pub powers_apart : (x y : ℕ) → x < y → y < 255 → bit_xor (two_to x) (two_to y) ≢ 0
powers_apart x y lt few e =
    let same : x ≡ y = two_to_injective x y (omega arith) few (xor-eq-zero (two_to x) (two_to y) e) in
    absurd (omega arith)

-- of two units: with i the inverse of 2^x + 2^y, and a = 2^y i
pub repairs_of_units : (units x y i a : ℕ) → x < y → y < units → i < 256 → a < 256 →
    product (bit_xor (two_to x) (two_to y)) i ≡ 1 → a ≡ product i (two_to y)
    → AreRepairs units x y (record { row = x; by_p = a; by_q = i }) (record { row = y; by_p = bit_xor a 1; by_q = i })
repairs_of_units units x y i a lt few i_lt a_lt e is_a =
    let sum_lt = xor_of_8 (two_to x) (two_to y) (two_to_lt x) (two_to_lt y) in
    let once : bit_xor (product i (two_to x)) (product i (two_to y)) ≡ 1 =
    sym (product-xor i (two_to x) (two_to y)) ∙ product_comm i (bit_xor (two_to x) (two_to y)) i_lt sum_lt ∙ e in
    let both : bit_xor a (product i (two_to x)) ≡ 1 = rw is_a (xor_comm (product i (two_to y)) (product i (two_to x)) ∙ once) in
    let back : product (bit_xor (two_to x) (two_to y)) a ≡ two_to y =
    ap (product (bit_xor (two_to x) (two_to y))) is_a
    ∙ sym (product_assoc (bit_xor (two_to x) (two_to y)) i (two_to y) sum_lt i_lt) ∙ ap (λ (n : ℕ). product n (two_to y)) e
    ∙ one_product (two_to y) (two_to_lt y) in
    let more_lt : bit_xor a 1 < 256 = xor_of_8 a 1 a_lt (omega arith) in
    record {
      row = refl;
      other_row = refl;
      whole = rw (p_weight_below units x (omega arith), q_weight_below units x (omega arith), product_one a) both;
      none_of_other = rw (p_weight_below units y (omega arith), q_weight_below units y few, product_one a, ← is_a) (xor_self a);
      none = rw (p_weight_below units x (omega arith), q_weight_below units x (omega arith), product_one (bit_xor a 1))
          (xor_right_comm a 1 (product i (two_to x)) ∙ ap (λ (n : ℕ). bit_xor n 1) both);
      other_whole =
          rw (p_weight_below units y (omega arith), q_weight_below units y few, product_one (bit_xor a 1), ← is_a)
          (xor_right_comm a 1 a ∙ ap (λ (n : ℕ). bit_xor n 1) (xor_self a));
      p_of_p = rw (
        p_weight_below units x (omega arith),
        p_weight_below units y (omega arith),
        one_product a a_lt,
        one_product (bit_xor a 1) more_lt,
      ) (xor_cancel a 1);
      p_of_q = rw (p_weight_below units x (omega arith), p_weight_below units y (omega arith)) (xor_self (product 1 i));
      q_of_p = rw (
        q_weight_below units x (omega arith),
        q_weight_below units y few,
        product-xor (two_to y) a 1,
        product_one (two_to y),
      )
          (sym (xor_assoc (product (two_to x) a) (product (two_to y) a) (two_to y))
          ∙ ap (λ (n : ℕ). bit_xor n (two_to y))
          (sym (xor-product (two_to x) (two_to y) a (two_to_lt x) (two_to_lt y) a_lt) ∙ back) ∙ xor_self (two_to y));
      q_of_q = rw (q_weight_below units x (omega arith), q_weight_below units y few)
          (sym (xor-product (two_to x) (two_to y) i (two_to_lt x) (two_to_lt y) i_lt) ∙ e);
      by_p_lt = a_lt;
      by_q_lt = i_lt;
      other_by_p_lt = more_lt;
      other_by_q_lt = i_lt;
    }

-- ---- the repairs are the ones that the definitions name

pub by_p_named : (units x : ℕ) → x ≤ units → record { row = x; by_p = 1; by_q = 0 } ≡ repair_of units x
unfolding repair_of
by_p_named units x le = rw (le-ltb units x le) refl

pub by_q_named : (units x : ℕ) → units < x → record { row = x; by_p = 0; by_q = 1 } ≡ repair_of units x
unfolding repair_of
by_q_named units x lt = rw (lt-ltb units x lt) refl

pub units_named : (units x y i a : ℕ) → y < units → i ≡ inverse_of (bit_xor (two_to x) (two_to y)) → a ≡ product i (two_to y)
    → ◌≡◌ {A = Repair × Repair} (record { row = x; by_p = a; by_q = i }, record { row = y; by_p = bit_xor a 1; by_q = i })
    (first_repair units x y, second_repair units x y)
unfolding first_repair second_repair
units_named units x y i a few is_i is_a = rw (lt-ltb y units few, is_a, is_i) refl

pub unit_and_p_named : (units x y i : ℕ) → y ≡ units → i ≡ inverse_of (two_to x)
    → ◌≡◌ {A = Repair × Repair} (record { row = x; by_p = 0; by_q = i }, record { row = y; by_p = 1; by_q = i })
    (first_repair units x y, second_repair units x y)
unfolding first_repair second_repair
unit_and_p_named units x y i same is_i = rw (le-ltb y units (omega (arith, same)), eq-eqb y units same, is_i) refl

pub unit_and_q_named : (units x y : ℕ) → x < units → units < y
    → ◌≡◌ {A = Repair × Repair} (record { row = x; by_p = 1; by_q = 0 }, record { row = y; by_p = two_to x; by_q = 1 })
    (first_repair units x y, second_repair units x y)
unfolding first_repair second_repair
unit_and_q_named units x y lt above =
    rw (le-ltb y units (omega (arith, above)), ne_eqb y units (λ e. omega (arith, e, above)), lt-ltb x units lt) refl

pub both_named : (units x y : ℕ) → x ≡ units → units < y
    → ◌≡◌ {A = Repair × Repair} (record { row = x; by_p = 1; by_q = 0 }, record { row = y; by_p = 0; by_q = 1 })
    (first_repair units x y, second_repair units x y)
unfolding first_repair second_repair
both_named units x y same above =
    rw (
      le-ltb y units (omega (arith, above)),
      ne_eqb y units (λ e. omega (arith, e, above)),
      le-ltb x units (omega (arith, same)),
    ) refl
