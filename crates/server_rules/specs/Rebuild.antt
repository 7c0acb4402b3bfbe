-- Rebuild: each missing component in order gets a drive and an object, and then its pieces.
use Rattle.std.specs.Prelude.{ℕ, false, List, [], ◌∷◌, Option, Some, None, ◌+◌, ◌/◌, ◌==◌, nat_lt, drop, replicate, slice_set, slice_range, if◌then◌else◌, find, is_some}
use Rattle.data_map.specs.Striping.{replicas, offset_of}
use Rattle.server_rules.specs.State.{Kept, Piece, Heard, Component, Awaited, Target, Drive, Rebuilding, Targets, Gathers, Fills, Rebuilt, NoDrive, Lost, NoSpace}
use Rattle.server_rules.specs.Maps.{group_with, pieces_in}
use Rattle.server_rules.specs.Standing.{replica, lacking, is_beyond}
use Rattle.server_rules.specs.Zoning.{takers}
use Rattle.server_rules.specs.Columns.{row_from, unit_rows, unit_with, first_unlike, end_of}
use Rattle.server_rules.specs.Decoding.{lost_units, restored}
use Rattle.server_rules.specs.Commands.{Creating, Reading, Writing, Only, FirstsOf, sent_to, to_all}
use Rattle.server_rules.specs.Going.{Going, over, with_components, noting, noting_if, rests, rests_or}

-- ---- a drive

-- the named one where it is among these, else the first
abbrev pub or_first : List ℕ → Drive → List Drive → ℕ
or_first [] d ds = d.number
or_first (c ∷ cs) d ds = if is_some (find (λ e. e.number == c) (d ∷ ds)) then c else d.number

-- the drive that the placer names, where it is one of these; else the first of them
abbrev pub picked : List ℕ → List Drive → Option ℕ
picked chosen [] = None
picked chosen (d ∷ ds) = Some (or_first chosen d ds)

-- the component, on that drive, with the next object number
abbrev pub target_on : Going → (k : ℕ) → Option ℕ → Option Target
target_on g k None = None
target_on g k (Some drive) = Some (record { component = k; drive = drive; object = g.effects.object })

-- where component k is made anew: None where it isn't missing, or where no drive can take it
unfoldable pub target_for : Going → Component → (k : ℕ) → Option Target
target_for g at k =
    if at.missing then target_on g k (picked g.chosen (takers g.drives g.file.kept k)) else None

-- the target's object is made: its number is used up, and so is the placer's answer
abbrev pub makes : Going → Target → Going
makes g t = rests (record g { effects = record g.effects { object = t.object + 1 }; chosen = drop 1 g.chosen }) Rebuilding
    (Targets t)
    (sent_to g.file.kept Creating t.component t.drive t.object g.effects.nonce) []

-- the object is made where there is a place for it, else this is what comes
abbrev pub makes_or : Going → Option Target → Going → Going
makes_or g None later = later
makes_or g (Some t) later = makes g t

-- the components from number k on; a missing one that no drive can take is passed over
unfoldable pub rebuilds : Going → List Component → (k : ℕ) → Going
rebuilds g [] k = over g
rebuilds g (at ∷ cs) k = makes_or g (target_for g at k) (rebuilds (noting_if at.missing g (NoDrive k)) cs (k + 1))

-- the components behind this one
abbrev pub goes_past : Going → Target → Going
goes_past g t = rebuilds g (drop (t.component + 1) g.file.kept.components) (t.component + 1)

-- all components in order
abbrev pub rebuild_begins : Going → Going
rebuild_begins g = rebuilds g g.file.kept.components 0

-- ---- its pieces

-- the position of the component
abbrev pub position_for : Kept → Target → ℕ
position_for f t = t.component / replicas f.map

-- the group of the target's component
abbrev pub group_for : Kept → Target → ℕ
group_for f t = group_with f.map t.component

-- by the first present replica of its position
abbrev pub sources_by : Kept → Target → Piece → (nonce : ℕ) → Option ℕ → List Awaited
sources_by f t p nonce (Some j) = to_all f (Only j) (Reading (offset_of f.map p.stripe p.column) p.count) nonce
sources_by f t p nonce None =
    if is_beyond f.map f.components (group_for f t) then []
    else to_all f (FirstsOf (group_for f t)) (Reading (offset_of f.map p.stripe p.column) p.count) nonce

-- the READs of a piece: the first present replica of its position, else of each other position; none where it is lost
unfoldable pub sources : Kept → Target → Piece → (nonce : ℕ) → List Awaited
sources f t p nonce = sources_by f t p nonce (replica f.map f.components (position_for f t))

-- a present component there
abbrev pub stands_at : Target → Component
stands_at t = record { drive = t.drive; object = t.object; missing = false }

-- the component stands on its new drive
abbrev pub rebuilt : Going → Target → Going
rebuilt g t =
    goes_past (noting (with_components g (slice_set g.file.kept.components t.component (stands_at t)))
    (Rebuilt t.component t.drive)) t

-- a piece can't be decoded
abbrev pub lost : Going → Target → Going
lost g t =
    goes_past (noting g (Lost t.component (lacking g.file.kept.map g.file.kept.components (group_for g.file.kept t)))) t

-- the rebuild of the component goes on with these pieces
unfoldable pub fills : Going → Target → List Piece → Going
fills g t [] = rebuilt g t
fills g t (p ∷ ps) = rests_or (sources g.file.kept t p g.effects.nonce) g Rebuilding (Gathers t (p ∷ ps)) (lost g t)

-- the target's object is made, and the pieces of the component come
abbrev pub fills_all : Going → Target → Going
fills_all g t = fills g t (pieces_in g.file.kept.map (group_for g.file.kept t) g.file.kept.high)

-- the row of the first present replica, or what is decoded
abbrev pub made_by : Kept → Target → Piece → List Heard → Option ℕ → List ℕ
made_by f t p heard (Some j) = row_from heard j p.count
made_by f t p heard None =
    restored f.map (lost_units f.map f.components p.stripe) (unit_rows f.map f.components p.stripe heard p.count)
    (unit_with f.map p.stripe t.component) p.count

-- the bytes of a piece from its sources' rows
unfoldable pub made : Kept → Target → Piece → List Heard → List ℕ
made f t p heard = made_by f t p heard (replica f.map f.components (position_for f t))

-- the WRITE of a piece to the target
abbrev pub to_fill : Kept → Target → Piece → List ℕ → (nonce : ℕ) → Awaited
to_fill f t p bytes nonce =
    sent_to f (Writing (offset_of f.map p.stripe p.column + first_unlike bytes (replicate p.count 0))
    (slice_range bytes (first_unlike bytes (replicate p.count 0)) (end_of bytes (replicate p.count 0))))
    t.component t.drive t.object nonce

-- the piece is written from the first to the last byte that isn't 0; one of zeros isn't
unfoldable pub filling : Going → Target → Piece → List Piece → List ℕ → Going
filling g t p ps bytes =
    if nat_lt 0 (end_of bytes (replicate p.count 0))
    then rests g Rebuilding (Fills t (p ∷ ps)) (to_fill g.file.kept t p bytes g.effects.nonce) []
    else fills g t ps

-- ---- the end of its target

-- the target's drive was declared
abbrev pub target_gone : Going → Target → Going
target_gone g t = goes_past (noting g (NoDrive t.component)) t

-- the target's drive has no space
abbrev pub target_full : Going → Target → Going
target_full g t = goes_past (noting g (NoSpace t.component)) t
