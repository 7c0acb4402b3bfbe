-- The bytes of a piece that is made anew.
use Rattle.std.specs.Prelude.{ℕ, List, Option, Some, None, ◌≡◌, ◌≤◌, length, nat_lt, replicate, map, if◌then◌else◌}
use Rattle.std.specs.List.{range_with_len}
use Rattle.data_map.specs.declared.check.RawMap.{RawMap}
use Rattle.data_map.specs.Striping.{group_width, parities}
use Rattle.server_rules.specs.declared.files.Kept.{Kept}
use Rattle.server_rules.specs.declared.files.Component.{Component}
use Rattle.server_rules.specs.declared.jobs.Piece.{Piece}
use Rattle.server_rules.specs.declared.jobs.Heard.{Heard}
use Rattle.server_rules.specs.declared.jobs.Target.{Target}
use Rattle.server_rules.specs.declared.jobs.Awaited.{Awaited}
use Rattle.server_rules.specs.Standing.{replica}
use Rattle.server_rules.specs.Columns.{unit_rows, end_of}
use Rattle.server_rules.specs.Decoding.{lost_units, restored}
use Rattle.server_rules.specs.Rebuild.{position_for, to_fill}

-- the rows of a stripe, in which those that are lost are decoded
abbrev pub restored_rows : RawMap → List Component → (stripe : ℕ) → List Heard → (count : ℕ) → List (List ℕ)
restored_rows m cs stripe heard count =
    map (λ c. restored m (lost_units m cs stripe) (unit_rows m cs stripe heard count) c count) (range_with_len 0 (group_width m))

-- the piece's position has a present replica, or no more of its stripe's units are lost than the code brings back
abbrev pub CanBeMade : Kept → Target → Piece → Type 0
CanBeMade f t p =
    replica f.map f.components (position_for f t) ≡ None → length (lost_units f.map f.components p.stripe) ≤ parities f.map

-- the WRITE of a piece to the target, where some byte isn't 0
abbrev pub fill_of : Kept → Target → Piece → List ℕ → (nonce : ℕ) → Option Awaited
fill_of f t p bytes nonce = if nat_lt 0 (end_of bytes (replicate p.count 0)) then Some (to_fill f t p bytes nonce) else None
