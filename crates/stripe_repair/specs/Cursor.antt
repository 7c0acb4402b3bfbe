-- The pieces that are left, where a cursor stands.
use Rattle.std.specs.Prelude.{ℕ, List, [], ◌++◌, ◌+◌, ◌-◌, ◌/◌, ◌<◌, ◌≤◌, ◌⊎◌, min, nat_lt, if◌then◌else◌, length, drop}
use Rattle.server_rules.specs.declared.grants.Stripes.{Stripes}
use Rattle.server_rules.specs.declared.jobs.Piece.{Piece}
use Rattle.server_rules.specs.declared.limits.TheConstants.{MAX_PIECE}
use Rattle.server_rules.specs.Maps.{pieces_from, pieces_along, pieces}
use Rattle.stripe_repair.specs.declared.cursor.Spot.{Spot}

-- the piece of a stripe at a column
abbrev pub piece_at : (unit : ℕ) → Spot → Piece
piece_at unit s = record { stripe = s.stripe; column = s.column; count = min MAX_PIECE (unit - s.column) }

-- the pieces of a stripe from a column on
abbrev pub rest_of : (unit stripe column : ℕ) → List Piece
rest_of unit stripe column = pieces_from unit stripe column ((unit - column + (MAX_PIECE - 1)) / MAX_PIECE)

-- the pieces of this stripe and of those behind it in the range
abbrev pub rest_in : (unit : ℕ) → Spot → List Piece
rest_in unit s =
    if nat_lt s.stripe s.end
    then rest_of unit s.stripe s.column ++ pieces_along unit (s.stripe + 1) (s.end - (s.stripe + 1))
    else []

-- the pieces of this range and of the further ones
abbrev pub rest_at : (unit : ℕ) → List Stripes → Spot → List Piece
rest_at unit ranges s = rest_in unit s ++ pieces unit (drop s.next ranges)

-- a cursor stands before a piece, or no range is left
pub record IsSettled (unit : ℕ) (ranges : List Stripes) (s : Spot) : Type 0 where
  pub some : 0 < unit
  pub column : s.column < unit
  pub before : (s.stripe < s.end) ⊎ (length ranges ≤ s.next)
