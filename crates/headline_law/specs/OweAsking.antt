-- What a repair awaits: a reply of each present component that it reads, and one of each that it writes.
use Rattle.std.specs.Prelude.{◌≡◌, ◌⊎◌, ℕ, ◌-◌, ◌≤◌, false, List, ◌∷◌, slice_get, Option, Some, None}
use Rattle.data_map.specs.declared.check.RawMap.{RawMap}
use Rattle.data_map.specs.Striping.{group_of}
use Rattle.scenario_text.specs.declared.line.Line.{Line}
use Rattle.server_rules.specs.Laws.{In}
use Rattle.server_rules.specs.Maps.{group_with}
use Rattle.server_rules.specs.Repair.{is_left}
use Rattle.world_history.specs.ServerNames.{File, Kept, Component, Awaited, Heard, Piece, Job, Work, Fetches, Stores}
use Rattle.world_history.specs.State.{World}
use Rattle.component_law.specs.Naming.{AreNamed}
use Rattle.history_law.specs.Moments.{IsMoment}

-- component k is present, in the group of the piece
pub record IsOfPiece (f : Kept) (p : Piece) (k : ℕ) : Type 0 where
  pub component : Component
  pub there : slice_get f.components k ≡ Some component
  pub present : component.missing ≡ false
  pub group : group_with f.map k ≡ group_of f.map p.stripe

-- its row was heard, or is awaited
abbrev pub IsRead : Job → (k : ℕ) → Type 0
IsRead j k =
    ((x : Heard) × In x j.heard × (x.component ≡ k)) ⊎ ((a : Awaited) × In a j.awaited × (a.component ≡ k))

-- no two of these go to one component
abbrev pub AreSingle : List Awaited → Type 0
AreSingle ws = (a b : Awaited) → In a ws → In b ws → a.component ≡ b.component → a ≡ b

-- a repair reads the first piece of each present component of its group, and the piece isn't left as it is
pub record ReadsAll (f : Kept) (j : Job) (p : Piece) : Type 0 where
  pub right : is_left f p ≡ false
  pub each : (k : ℕ) → IsOfPiece f p k → IsRead j k

-- each of these pieces lies within the units of its stripe
abbrev pub AreInside : RawMap → List Piece → Type 0
AreInside m ps = (p : Piece) → In p ps → p.count ≤ m.unit - p.column

-- by the work
abbrev pub AsksIn : Kept → Job → Work → Type 0
AsksIn f j (Fetches (p ∷ ps) short) = ReadsAll f j p × AreInside f.map (p ∷ ps)
AsksIn f j (Stores (p ∷ ps) short broken) = AreSingle j.awaited × AreInside f.map (p ∷ ps)
AsksIn f j work = Unit {0}

abbrev pub AsksOf : Kept → Option Job → Type 0
AsksOf f None = Unit {0}
AsksOf f (Some j) = AsksIn f j j.work

-- so it is of each job, at each moment of a history whose events lines can name
abbrev pub RepairsAskAll : Type 0
RepairsAskAll =
    (w : World) (h : List Line) → IsMoment w h → AreNamed h → (f : File) → In f w.server.files → AsksOf f.kept f.job
