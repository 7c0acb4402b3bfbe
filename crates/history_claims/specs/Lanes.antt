-- Whose lanes the objects of drives have, behind lines.
use Rattle.std.specs.Prelude.{◌≡◌, ℕ, true, List, Some}
use Rattle.osd_objects.specs.declared.object.StoredObject.{StoredObject}
use Rattle.osd_objects.specs.Store.{object_at}
use Rattle.scenario_text.specs.declared.line.Line.{Line}
use Rattle.world_history.specs.State.{DriveAt}
use Rattle.world_history.specs.Guesses.{unguessed}
use Rattle.world_history.specs.ReadDrives.{drive_after}
use Rattle.history_law.specs.Unforged.{AreUnforged}
use Rattle.exchange_law.specs.Lanes.{AreLanes}
use Rattle.exchange_law.specs.FairLanes.{AreFairLanes}

-- where nothing is forged, each is of a command that its holder sent, or of one that carries what was given to its holder
abbrev pub HaveFairLanes : List Line → Type 0
HaveFairLanes h =
    AreUnforged h → (drive : ℕ) (a : DriveAt) → drive_after h drive ≡ Some a → (object : ℕ) (x : StoredObject) →
    object_at a.state.store object ≡ Some x → AreFairLanes h drive object x.lanes

-- where nothing was guessed, each is of a command that its holder sent
abbrev pub HaveOwnLanes : List Line → Type 0
HaveOwnLanes h =
    unguessed h ≡ true → (drive : ℕ) (a : DriveAt) → drive_after h drive ≡ Some a → (object : ℕ) (x : StoredObject) →
    object_at a.state.store object ≡ Some x → AreLanes h drive object x.lanes
