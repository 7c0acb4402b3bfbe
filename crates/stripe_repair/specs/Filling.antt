-- A rebuild between its messages: its target, the pieces that are left, and what is awaited.
use Rattle.std.specs.Prelude.{ℕ, List, [], ◌∷◌, Option, Some, None, ◌≡◌, ◌≢◌, slice_get, IfSome}
use Rattle.std.specs.List.{All}
use Rattle.data_map.specs.declared.check.RawMap.{RawMap}
use Rattle.data_map.specs.Striping.{group_of}
use Rattle.server_rules.specs.declared.files.Kept.{Kept}
use Rattle.server_rules.specs.declared.jobs.Piece.{Piece}
use Rattle.server_rules.specs.declared.jobs.Target.{Target}
use Rattle.server_rules.specs.declared.jobs.Awaited.{Awaited}
use Rattle.server_rules.specs.declared.jobs.Work.{Work}
use Rattle.server_rules.specs.declared.jobs.JobKind.TheVariants.{Rebuilding}
use Rattle.server_rules.specs.declared.jobs.Work.TheVariants.{Gathers, Fills}
use Rattle.server_rules.specs.declared.notes.NoteKind.TheVariants.{Lost}
use Rattle.server_rules.specs.Maps.{group_with, pieces_in}
use Rattle.server_rules.specs.Standing.{lacking}
use Rattle.server_rules.specs.Going.{Going, noting, rests, rests_or}
use Rattle.server_rules.specs.Rebuild.{group_for, sources, rebuilt, lost, goes_past}
use Rattle.stripe_repair.specs.declared.rebuild.FillStage.{FillStage}
use Rattle.stripe_repair.specs.declared.rebuild.FillStage.TheVariants.{Gathering, Filling}
use Rattle.stripe_repair.specs.declared.rebuild.FillStep.{FillStep}
use Rattle.stripe_repair.specs.declared.rebuild.FillStep.TheVariants.{Fetch, Store, Over, Lost as LostPiece}
use Rattle.stripe_repair.specs.Pieces.{IsPiece}
use Rattle.stripe_repair.specs.Restored.{CanBeMade}

-- the component that is made anew, the pieces that are left, the first of which is in work, and what is awaited
pub record RebuildState : Type 0 where
  pub target : Target
  pub todo : List Piece
  pub stage : FillStage

-- a rebuild begins: all pieces of the component's group below high
abbrev pub begins : RawMap → Target → (high : ℕ) → RebuildState
begins m t high = record { target = t; todo = pieces_in m (group_with m t.component) high; stage = Gathering }

-- what a rebuild waits for and has left, as the rules have it
abbrev pub fill_work_at : FillStage → Target → List Piece → Work
fill_work_at Gathering t todo = Gathers t todo
fill_work_at Filling t todo = Fills t todo

abbrev pub fill_work_of : RebuildState → Work
fill_work_of s = fill_work_at s.stage s.target s.todo

-- a piece of a stripe in the component's group
pub record IsPieceOf (m : RawMap) (t : Target) (p : Piece) : Type 0 where
  pub piece : IsPiece p
  pub group : group_of m p.stripe ≡ group_with m t.component

-- the pieces that are left are of the component's group by this map
abbrev pub ArePiecesOf : RawMap → RebuildState → Type 0
ArePiecesOf m s = All (IsPieceOf m s.target) s.todo

-- the first piece can be made
abbrev pub IsReadable : Kept → RebuildState → Type 0
IsReadable f s = IfSome (slice_get s.todo 0) (CanBeMade f s.target)

-- ---- what comes of a step

-- the rebuild sends these READs, or that WRITE, and rests; or the component stands on its new drive; or a piece is lost
abbrev pub comes_to : FillStep → Going → RebuildState → Going
comes_to (Fetch cs) g s = rests_or cs g Rebuilding (fill_work_of s) (lost g s.target)
comes_to (Store a) g s = rests g Rebuilding (fill_work_of s) a []
comes_to Over g s = rebuilt g s.target
comes_to (LostPiece positions) g s = goes_past (noting g (Lost s.target.component positions)) s.target

-- the step reads
abbrev pub IsFetch : FillStep → Type 0
IsFetch (Fetch cs) = Unit {0}
IsFetch step = ⊥

-- where it reads, there is something to read
abbrev pub ReadsSome : FillStep → Type 0
ReadsSome (Fetch cs) = cs ≢ []
ReadsSome step = Unit {0}

-- what is awaited where it reads or writes
abbrev pub StagesAs : FillStep → FillStage → Type 0
StagesAs (Fetch cs) stage = stage ≡ Gathering
StagesAs (Store a) stage = stage ≡ Filling
StagesAs step stage = Unit {0}

-- the READs of a piece's sources, or that it is lost
abbrev pub by_sources : Kept → Target → List Awaited → FillStep
by_sources f t [] = LostPiece (lacking f.map f.components (group_for f t))
by_sources f t (c ∷ cs) = Fetch (c ∷ cs)

-- what comes of the first piece, if there is one
abbrev pub sourced : Kept → Target → Option Piece → (nonce : ℕ) → FillStep
sourced f t None nonce = Over
sourced f t (Some p) nonce = by_sources f t (sources f t p nonce)
