-- A piece of an audit or a repair: what is read, what is written so that it is as it should be, and whether it is
-- short.
use Rattle.std.specs.Prelude.{ℕ, Bool, List, [], ◌∷◌, ◌+◌, ◌==◌, ◌&&◌, not, nat_lt, slice_range, if◌then◌else◌}
use Rattle.data_map.specs.Striping.{group_of, offset_of}
use Rattle.server_rules.specs.State.{Kept, Piece, Heard, Component, Awaited}
use Rattle.server_rules.specs.Numbers.{marked}
use Rattle.server_rules.specs.Maps.{group_with}
use Rattle.server_rules.specs.Standing.{is_short}
use Rattle.server_rules.specs.Columns.{row_from, unit_rows, unit_with, wanted, first_unlike, end_of}
use Rattle.server_rules.specs.Commands.{Reading, Writing, OfGroup, sent_to, to_all}

-- the READs of a piece: each present component of its group
abbrev pub reads : Kept → Piece → (nonce : ℕ) → List Awaited
reads f p nonce =
    to_all f (OfGroup (group_of f.map p.stripe)) (Reading (offset_of f.map p.stripe p.column) p.count) nonce

-- the WRITE that makes one row another, from the first to the last column that differs
abbrev pub to_store : Kept → Piece → (have want : List ℕ) → (k drive object nonce : ℕ) → Awaited
to_store f p have want k drive object nonce =
    sent_to f (Writing (offset_of f.map p.stripe p.column + first_unlike have want)
    (slice_range want (first_unlike have want) (end_of have want))) k drive object nonce

-- the row of component k isn't the wanted one
abbrev pub is_off : Kept → Piece → (have want : List ℕ) → Component → (k : ℕ) → Bool
is_off f p have want at k =
    (not at.missing && (group_with f.map k == group_of f.map p.stripe)) && nat_lt 0 (end_of have want)

-- the WRITEs that make the rows heard codewords of their data with equal replicas, from component number k on
unfoldable pub stores_from : Kept → Piece → List (List ℕ) → List Heard → List Component → (k nonce : ℕ) → List Awaited
stores_from f p rows heard [] k nonce = []
stores_from f p rows heard (at ∷ cs) k nonce =
    if is_off f p (row_from heard k p.count) (wanted f.map rows (unit_with f.map p.stripe k) p.count) at k
    then to_store f p (row_from heard k p.count)
    (wanted f.map rows (unit_with f.map p.stripe k) p.count) k at.drive at.object nonce
    ∷ stores_from f p rows heard cs (k + 1) (nonce + 1)
    else stores_from f p rows heard cs (k + 1) nonce

-- the WRITEs of a piece to all components whose rows differ
abbrev pub stores : Kept → Piece → List Heard → (nonce : ℕ) → List Awaited
stores f p heard nonce =
    stores_from f p (unit_rows f.map f.components p.stripe heard p.count) heard f.components 0 nonce

-- the stripes left short, with that of this piece where it is short
unfoldable pub short_with : Kept → Piece → List ℕ → List ℕ
short_with f p short = if is_short f.map f.components (group_of f.map p.stripe) then marked p.stripe short else short
