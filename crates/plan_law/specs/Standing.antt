-- The columns of which each position has a replica that stands, and the bytes of such replicas.
-- A component stands that isn't flagged as lost. Which are flagged is a choice: those that the machine has as lost or as
-- gone, or all but the replicas that were read.
use Rattle.std.specs.Prelude.{ℕ, zero, suc, ◌+◌, ◌*◌, ◌/◌, Bool, true, false, if◌then◌else◌}
use Rattle.data_map.specs.declared.check.RawMap.{RawMap}
use Rattle.data_map.specs.Striping.{replicas, group_width, position_of, place_of}
use Rattle.plan_law.specs.FileLayout.{has_parity}

-- one of n components from k on stands
unfoldable pub some_stands : (lost : ℕ → Bool) → (k n : ℕ) → Bool
some_stands lost k zero = false
some_stands lost k (suc n) = if lost k then some_stands lost (k + 1) n else true

-- the first of them that does; k + n where none does
unfoldable pub first_standing : (lost : ℕ → Bool) → (k n : ℕ) → ℕ
first_standing lost k zero = k
first_standing lost k (suc n) = if lost k then first_standing lost (k + 1) n else k

-- a replica of the position stands
abbrev pub position_stands : RawMap → (lost : ℕ → Bool) → (p : ℕ) → Bool
position_stands m lost p = some_stands lost (p * replicas m) (replicas m)

-- the positions of n units of stripe s from c on each have such a replica
unfoldable pub units_stand : RawMap → (lost : ℕ → Bool) → (s c n : ℕ) → Bool
units_stand m lost s c zero = true
units_stand m lost s c (suc n) =
    if position_stands m lost (position_of m s c) then units_stand m lost s (c + 1) n else false

-- each position that has a cell in column x has such a replica
abbrev pub column_stands : RawMap → (lost : ℕ → Bool) → (x : ℕ) → Bool
column_stands m lost x =
    if has_parity m then units_stand m lost (x / m.unit) 0 (group_width m)
    else position_stands m lost (place_of m x).position

-- the first replica of a byte's position that stands
abbrev pub standing_at : RawMap → (lost : ℕ → Bool) → (q : ℕ) → ℕ
standing_at m lost q = first_standing lost ((place_of m q).position * replicas m) (replicas m)

-- byte q of the file as that replica has it, 0 where none stands
abbrev pub standing_byte : RawMap → (lost : ℕ → Bool) → (cell : ℕ → ℕ → ℕ) → (q : ℕ) → ℕ
standing_byte m lost cell q =
    if position_stands m lost (place_of m q).position then cell (standing_at m lost q) (place_of m q).offset else 0
