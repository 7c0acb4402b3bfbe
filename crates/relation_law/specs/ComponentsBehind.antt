-- What the components' part needs of the world and of the jobs behind a step of the server.
use Rattle.std.specs.Prelude.{◌≡◌, ◌⊎◌, ℕ, ◌<◌, false, List, [], slice_get, Some, None}
use Rattle.osd_objects.specs.declared.lanes.LaneEntry.{LaneEntry}
use Rattle.osd_objects.specs.Store.{lane_or_none}
use Rattle.scenario_text.specs.declared.names.TheConstants.{CLIENTS}
use Rattle.server_rules.specs.Laws.{In}
use Rattle.server_rules.specs.Messages.{awaited_by}
use Rattle.world_history.specs.ServerNames.{File, Component, Note, Rebuilt}
use Rattle.world_history.specs.State.{World}
use Rattle.component_law.specs.Standing.{IsCreating}
use Rattle.fence_law.specs.State.{State}
use Rattle.file_simulation.specs.Components.{StandsAs, is_lost_in, object_of}

-- a note of the file that component k was made anew where it is
pub record WasRebuilt (f : File) (ns : List Note) (k : ℕ) (at : Component) : Type 0 where
  pub note : Note
  pub told : In note ns
  pub file : note.file ≡ f.kept.number
  pub kind : note.kind ≡ Rebuilt k at.drive

-- the file isn't ready, has no grant, and makes its objects, or no job of it runs
pub record IsUnready (g : File) (at : Component) : Type 0 where
  pub unready : g.kept.ready ≡ false
  pub ungranted : g.kept.grants ≡ []
  pub due : IsCreating (awaited_by g.job) at.drive at.object g.kept.tag ⊎ (g.job ≡ None)

-- so it is as long as the object of a component that isn't lost isn't there
abbrev pub AreUnready : World → File → Type 0
AreUnready v g =
    (k : ℕ) (at : Component) → slice_get g.kept.components k ≡ Some at → is_lost_in v at ≡ false →
    object_of v at ≡ None → IsUnready g at

-- A component that was made anew, and isn't lost again, stands as the machine has it, and no client has a lane there.
pub record RebuiltStands (t : State) (v : World) (g : File) (k : ℕ) (at : Component) : Type 0 where
  pub stands : StandsAs t v g k at
  pub lanes : (c : ℕ) (l : LaneEntry) → c < CLIENTS → lane_or_none (object_of v at) c ≡ Some l → ⊥

abbrev pub RebuiltStand : State → World → (f g : File) → List Note → Type 0
RebuiltStand t v f g ns =
    (k : ℕ) (at : Component) → slice_get g.kept.components k ≡ Some at → WasRebuilt f ns k at → t.lost k ≡ false →
    RebuiltStands t v g k at
