-- Lost rows as sums of multiples of the syndromes.
use Rattle.std.specs.Prelude.{◌≡◌, ℕ, ◌<◌, ◌≤◌, ◌==◌, nat_lt, if◌then◌else◌, List, bit_xor, slice_set}
use Rattle.gf256.specs.Field.{product, two_to, inverse_of}
use Rattle.gf256.specs.Tables.{HasProducts}
use Rattle.parity_code.specs.declared.repair.Repair.{Repair}
use Rattle.parity_code.specs.declared.repair.RepairTables.{RepairTables}
use Rattle.parity_code.specs.Syndromes.{p_syndrome, q_syndrome, p_weight, q_weight}

-- the byte that a repair makes of the syndromes
abbrev pub repaired : Repair → ℕ → ℕ → ℕ
repaired r p q = bit_xor (product r.by_p p) (product r.by_q q)

-- a column after both repairs
abbrev pub repaired_column : ℕ → Repair → Repair → List ℕ → List ℕ
repaired_column units r s col =
    slice_set (slice_set col r.row (repaired r (p_syndrome units col) (q_syndrome units col))) s.row
    (repaired s (p_syndrome units col) (q_syndrome units col))

-- how often the repair takes the byte at position j
abbrev pub share : ℕ → Repair → ℕ → ℕ
share units r j = repaired r (p_weight units j) (q_weight units j)

-- ---- the repairs of lost rows

-- of one lost row: Q's by the second syndrome, any other by the first
unfoldable pub repair_of : (units x : ℕ) → Repair
repair_of units x =
    if nat_lt units x then record { row = x; by_p = 0; by_q = 1 }
    else record { row = x; by_p = 1; by_q = 0 }

-- of the first of two lost rows x < y, which are units, a unit and P, or one of these and Q
unfoldable pub first_repair : (units x y : ℕ) → Repair
first_repair units x y =
    if nat_lt y units then record {
      row = x;
      by_p = product (inverse_of (bit_xor (two_to x) (two_to y))) (two_to y);
      by_q = inverse_of (bit_xor (two_to x) (two_to y));
    }
    else if y == units then record { row = x; by_p = 0; by_q = inverse_of (two_to x) }
    else record { row = x; by_p = 1; by_q = 0 }

-- and of the second
unfoldable pub second_repair : (units x y : ℕ) → Repair
second_repair units x y =
    if nat_lt y units then record {
      row = y;
      by_p = bit_xor (first_repair units x y).by_p 1;
      by_q = (first_repair units x y).by_q;
    }
    else if y == units then record { row = y; by_p = 1; by_q = inverse_of (two_to x) }
    else if nat_lt x units then record { row = y; by_p = two_to x; by_q = 1 }
    else record { row = y; by_p = 0; by_q = 1 }

-- ---- what they are chosen for

-- a repair of row x takes the byte that was there once, and needs Q only for Q
pub record IsRepair (units x : ℕ) (r : Repair) : Type 0 where
  pub row : r.row ≡ x
  pub whole : share units r x ≡ 1
  pub plain : x ≤ units → r.by_q ≡ 0
  pub by_p_lt : r.by_p < 256
  pub by_q_lt : r.by_q < 256

-- each of the repairs of rows x and y takes its own byte once and the other's not at all, and with both repaired no
-- syndrome is left
pub record AreRepairs (units x y : ℕ) (r s : Repair) : Type 0 where
  pub row : r.row ≡ x
  pub other_row : s.row ≡ y
  pub whole : share units r x ≡ 1
  pub none_of_other : share units r y ≡ 0
  pub none : share units s x ≡ 0
  pub other_whole : share units s y ≡ 1
  pub p_of_p : bit_xor (product (p_weight units x) r.by_p) (product (p_weight units y) s.by_p) ≡ 1
  pub p_of_q : bit_xor (product (p_weight units x) r.by_q) (product (p_weight units y) s.by_q) ≡ 0
  pub q_of_p : bit_xor (product (q_weight units x) r.by_p) (product (q_weight units y) s.by_p) ≡ 0
  pub q_of_q : bit_xor (product (q_weight units x) r.by_q) (product (q_weight units y) s.by_q) ≡ 1
  pub by_p_lt : r.by_p < 256
  pub by_q_lt : r.by_q < 256
  pub other_by_p_lt : s.by_p < 256
  pub other_by_q_lt : s.by_q < 256

-- the tables of a repair
pub record HasTables (r : Repair) (t : RepairTables) : Type 0 where
  pub row : t.row ≡ r.row
  pub by_p : HasProducts r.by_p t.by_p
  pub by_q : HasProducts r.by_q t.by_q
