-- The stripes of ended grants, which lie inside the longest file.
use Rattle.std.specs.Prelude.{ℕ, List, [], ◌∷◌, ◌≤◌}
use Rattle.data_map.specs.declared.ranges.TheConstants.{MAX_FILE_SIZE}
use Rattle.server_rules.specs.declared.grants.Grant.{Grant}
use Rattle.server_rules.specs.declared.grants.Stripes.{Stripes}

-- the grants end inside the longest file
abbrev pub EndInside : List Grant → Type 0
EndInside [] = Unit {0}
EndInside (g ∷ gs) = (g.first ≤ g.end) × (g.end ≤ MAX_FILE_SIZE) × EndInside gs

-- the ranges rise from a stripe on, without overlap, and end inside the longest file
abbrev pub Rise : (from : ℕ) → List Stripes → Type 0
Rise from [] = Unit {0}
Rise from (r ∷ rs) = (from ≤ r.first) × (r.first ≤ r.end) × (r.end ≤ MAX_FILE_SIZE) × Rise r.end rs
