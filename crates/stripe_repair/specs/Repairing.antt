-- A repair between its messages: the pieces that are left, the stripes left short, and what is awaited.
use Rattle.std.specs.Prelude.{ℕ, true, List, [], ◌∷◌, ◌≡◌, ◌≤◌}
use Rattle.std.specs.List.{All}
use Rattle.data_map.specs.declared.ranges.TheConstants.{MAX_FILE_SIZE}
use Rattle.server_rules.specs.declared.files.Kept.{Kept}
use Rattle.server_rules.specs.declared.jobs.Piece.{Piece}
use Rattle.server_rules.specs.declared.grants.Stripes.{Stripes}
use Rattle.server_rules.specs.declared.jobs.Awaited.{Awaited}
use Rattle.server_rules.specs.declared.jobs.Work.{Work}
use Rattle.server_rules.specs.declared.jobs.JobKind.{JobKind}
use Rattle.server_rules.specs.declared.jobs.Work.TheVariants.{Fetches, Stores}
use Rattle.server_rules.specs.Going.{Going, rests_or}
use Rattle.server_rules.specs.Pieces.{short_with}
use Rattle.server_rules.specs.Repair.{repair_reads, repairs}
use Rattle.stripe_repair.specs.declared.repair.Stage.{Stage}
use Rattle.stripe_repair.specs.declared.repair.Stage.TheVariants.{Fetching, Storing}

-- the pieces that are left, the first of which is in work, and the stripes left short
pub record RepairState : Type 0 where
  pub todo : List Piece
  pub short : List ℕ
  pub stage : Stage

-- what a repair waits for and has left, as the rules have it
abbrev pub work_at : Stage → List Piece → List ℕ → Work
work_at Fetching todo short = Fetches todo short
work_at (Storing broken) todo short = Stores todo short broken

abbrev pub work_of : RepairState → Work
work_of s = work_at s.stage s.todo s.short

-- where WRITEs are awaited, the piece begins again afterwards
abbrev pub broken : Stage → Stage
broken Fetching = Fetching
broken (Storing b) = Storing true

-- the ranges end inside the longest file
abbrev pub AreInside : List Stripes → Type 0
AreInside ranges = All (λ r. r.end ≤ MAX_FILE_SIZE) ranges

-- a step in the middle, of a file of which this is kept, with this next nonce
pub record IsAt (f : Kept) (next : ℕ) (g : Going) : Type 0 where
  pub kept : g.file.kept ≡ f
  pub nonce : g.effects.nonce ≡ next

-- a repair that sends these commands and rests, or is over where there are none
abbrev pub rests_repairing : List Awaited → Going → JobKind → RepairState → Going
rests_repairing cs g kind s = rests_or cs g kind (work_of s) (repairs kind g [] s.short)

-- ---- where it goes on

-- the pieces that are left, the stripes left short, and the READs of the first piece
pub record Onward : Type 0 where
  pub todo : List Piece
  pub short : List ℕ
  pub reads : List Awaited

-- a repair stops at a piece of which something is read, else this is what comes
abbrev pub stops_or : List Awaited → List Piece → List ℕ → Onward → Onward
stops_or [] todo short later = later
stops_or (c ∷ cs) todo short later = record { todo = todo; short = short; reads = c ∷ cs }

-- a repair goes past each piece of which nothing is read
unfoldable pub goes_to : Kept → (nonce : ℕ) → List Piece → List ℕ → Onward
goes_to f nonce [] short = record { todo = []; short = short; reads = [] }
goes_to f nonce (p ∷ ps) short =
    stops_or (repair_reads f p nonce) (p ∷ ps) (short_with f p short) (goes_to f nonce ps (short_with f p short))
