-- The pieces of a group's stripes that are left, where a cursor stands.
use Rattle.std.specs.Prelude.{◌≡◌, ℕ, List, filter, ◌==◌, ◌<◌, ◌≤◌}
use Rattle.data_map.specs.Striping.{group_of, groups}
use Rattle.data_map.specs.declared.ranges.TheConstants.{MAX_FILE_SIZE}
use Rattle.data_map.specs.declared.check.RawMap.{RawMap}
use Rattle.server_rules.specs.declared.jobs.Piece.{Piece}
use Rattle.stripe_repair.specs.declared.cursor.Spot.{Spot}
use Rattle.stripe_repair.specs.Cursor.{rest_in}

-- the pieces that are left of the stripes in the group
abbrev pub left_in_group : RawMap → (group : ℕ) → Spot → List Piece
left_in_group m group s = filter (λ p. group_of m p.stripe == group) (rest_in m.unit s)

-- a cursor stands in a stripe of the group, or none is left
pub record StandsInGroup (m : RawMap) (group : ℕ) (s : Spot) : Type 0 where
  pub known : group < groups m
  pub column : s.column < m.unit
  pub low : s.end ≤ MAX_FILE_SIZE
  pub stands : s.stripe < s.end → group_of m s.stripe ≡ group
