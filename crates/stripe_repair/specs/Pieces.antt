-- Pieces that may be worked, the rows that one should have, and what makes a component's row so.
use Rattle.std.specs.Prelude.{ℕ, List, Option, Some, None, ◌+◌, ◌<◌, ◌≤◌, map, nat_lt, slice_range, if◌then◌else◌}
use Rattle.std.specs.List.{range_with_len}
use Rattle.data_map.specs.Striping.{group_width, offset_of}
use Rattle.data_map.specs.declared.check.TheConstants.{MAX_STRIPE_UNIT}
use Rattle.data_map.specs.declared.ranges.TheConstants.{MAX_FILE_SIZE}
use Rattle.server_rules.specs.declared.limits.TheConstants.{MAX_PIECE}
use Rattle.server_rules.specs.declared.files.Kept.{Kept}
use Rattle.data_map.specs.declared.check.RawMap.{RawMap}
use Rattle.server_rules.specs.declared.jobs.Piece.{Piece}
use Rattle.server_rules.specs.declared.jobs.Heard.{Heard}
use Rattle.server_rules.specs.declared.files.Component.{Component}
use Rattle.server_rules.specs.declared.jobs.Awaited.{Awaited}
use Rattle.server_rules.specs.Columns.{row_from, unit_rows, unit_with, wanted, end_of}
use Rattle.server_rules.specs.Commands.{Writing, sent_to}
use Rattle.server_rules.specs.Pieces.{to_store, is_off}
use Rattle.server_rules.specs.declared.jobs.Target.{Target}
use Rattle.stripe_repair.specs.declared.commands.Ask.{Ask}
use Rattle.stripe_repair.specs.declared.commands.Ask.TheVariants.{Read}

-- a piece of a stripe that begins inside the longest file
pub record IsPiece (p : Piece) : Type 0 where
  pub stripe : p.stripe < MAX_FILE_SIZE
  pub column : p.column ≤ MAX_STRIPE_UNIT
  pub count : p.count ≤ MAX_PIECE

-- what is read of a component
abbrev pub reading_of : RawMap → Piece → Ask
reading_of m p = Read (offset_of m p.stripe p.column) p.count

-- the codewords of these rows' data, unit by unit
abbrev pub wanted_rows : RawMap → List (List ℕ) → (count : ℕ) → List (List ℕ)
wanted_rows m rows count = map (λ c. wanted m rows c count) (range_with_len 0 (group_width m))

-- the WRITE of columns first to end of a piece's row
abbrev pub columns_write : Kept → Piece → List ℕ → (first end : ℕ) → Target → (nonce : ℕ) → Awaited
columns_write f p row first end to nonce =
    sent_to f (Writing (offset_of f.map p.stripe p.column + first) (slice_range row first end))
    to.component to.drive to.object nonce

-- the WRITE that makes one row another, where they differ
abbrev pub store_between : Kept → Piece → (have want : List ℕ) → Target → (nonce : ℕ) → Option Awaited
store_between f p have want to nonce =
    if nat_lt 0 (end_of have want) then Some (to_store f p have want to.component to.drive to.object nonce) else None

-- the rows that were read
abbrev pub rows_of : Kept → Piece → List Heard → List (List ℕ)
rows_of f p heard = unit_rows f.map f.components p.stripe heard p.count

-- the WRITE to component k, where its row isn't the wanted one
unfoldable pub store_of : Kept → Piece → List (List ℕ) → List Heard → Component → (k nonce : ℕ) → Option Awaited
store_of f p rows heard at k nonce =
    if is_off f p (row_from heard k p.count) (wanted f.map rows (unit_with f.map p.stripe k) p.count) at k
    then Some (to_store f p (row_from heard k p.count) (wanted f.map rows (unit_with f.map p.stripe k) p.count)
    k at.drive at.object nonce)
    else None

-- the WRITE to a component of what its row should be, by the rows that were read
abbrev pub store_in : Kept → Piece → List Heard → Component → (k nonce : ℕ) → Option Awaited
store_in f p heard at k nonce = store_of f p (rows_of f p heard) heard at k nonce
