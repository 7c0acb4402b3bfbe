-- What the rules need of a map besides the places of bytes: groups of components, rows, pieces.
use Rattle.std.specs.Prelude.{ℕ, zero, suc, Bool, List, [], ◌∷◌, ◌++◌, ◌+◌, ◌-◌, ◌*◌, ◌/◌, ◌%◌, ◌==◌, nat_lt, min, if◌then◌else◌, filter}
use Rattle.data_map.specs.Striping.{replicas, group_width, groups, group_of, parities}
use Rattle.parity_code.specs.declared.code.Code.{Code}
use Rattle.parity_code.specs.declared.code.Code.TheVariants.{Plain, Xor, PandQ}
use Rattle.server_rules.specs.declared.limits.TheConstants.{MAX_PIECE}
use Rattle.server_rules.specs.State.{RawMap, Stripes, Piece}

-- the group in which component k stands
abbrev pub group_with : RawMap → ℕ → ℕ
group_with m k = (k / replicas m) / group_width m

-- the code of its stripes
abbrev pub code_of : RawMap → Code
code_of m = if parities m == 0 then Plain else if parities m == 2 then PandQ else Xor

-- how many stripes below s a group has, which is also the row of its next one
unfoldable pub rows_below : RawMap → (group s : ℕ) → ℕ
rows_below m group s =
    if m.width == 0 then s
    else (s / (m.depth * groups m)) * m.depth + min (s % (m.depth * groups m) - group * m.depth) m.depth

-- a stripe of first to end stands in the group
abbrev pub stands_in : RawMap → (group first end : ℕ) → Bool
stands_in m group first end = nat_lt (rows_below m group first) (rows_below m group end)

-- the rows that stripes first to end have in a group; where they have none, none from 0 on
unfoldable pub rows_in : RawMap → (group first end : ℕ) → Stripes
rows_in m group first end =
    if stands_in m group first end then record { first = rows_below m group first; end = rows_below m group end }
    else record { first = 0; end = 0 }

-- ---- pieces: at most MAX_PIECE columns of one stripe

-- n pieces of a stripe, from a column on
unfoldable pub pieces_from : (unit stripe column : ℕ) → ℕ → List Piece
pieces_from unit stripe column zero = []
pieces_from unit stripe column (suc n) =
    record { stripe = stripe; column = column; count = min MAX_PIECE (unit - column) }
    ∷ pieces_from unit stripe (column + MAX_PIECE) n

-- the pieces of a stripe
abbrev pub pieces_of : (unit stripe : ℕ) → List Piece
pieces_of unit stripe = pieces_from unit stripe 0 ((unit + (MAX_PIECE - 1)) / MAX_PIECE)

-- the pieces of n stripes, from a stripe on
unfoldable pub pieces_along : (unit stripe : ℕ) → ℕ → List Piece
pieces_along unit stripe zero = []
pieces_along unit stripe (suc n) = pieces_of unit stripe ++ pieces_along unit (stripe + 1) n

-- the pieces of some ranges of stripes
unfoldable pub pieces : (unit : ℕ) → List Stripes → List Piece
pieces unit [] = []
pieces unit (r ∷ rs) = pieces_along unit r.first (r.end - r.first) ++ pieces unit rs

-- the pieces of the stripes below high that stand in a group
unfoldable pub pieces_in : RawMap → (group high : ℕ) → List Piece
pieces_in m group high = filter (λ p. group_of m p.stripe == group) (pieces_along m.unit 0 high)
