-- Which tags the commands have that drives perform.
use Rattle.std.specs.Prelude.{◌≡◌, ℕ, ◌≤◌, List, ◌∷◌, ◌++◌, Option, Some, None, Ok}
use Rattle.std.specs.Option.{option_map}
use Rattle.osd_objects.specs.declared.object.StoredObject.{StoredObject}
use Rattle.osd_objects.specs.Store.{object_at}
use Rattle.osd_commands.specs.declared.commands.Command.{Command}
use Rattle.osd_commands.specs.Commands.{reading}
use Rattle.scenario_text.specs.declared.line.Verdict.TheVariants.{Perform}
use Rattle.scenario_text.specs.declared.line.Line.{Line}
use Rattle.world_history.specs.State.{DriveAt}
use Rattle.world_history.specs.ReadDrives.{drive_after}
use Rattle.history_law.specs.Judging.{Judges}

-- the tag of an object of a drive, where it is there
abbrev pub tag_in : Option DriveAt → (object : ℕ) → Option ℕ
tag_in None object = None
tag_in (Some a) object = option_map (λ (x : StoredObject). x.tag) (object_at a.state.store object)

-- where an object has a tag, each command that its drive performs on it from then on has that tag or a later one
abbrev pub RefusesOldTags : List Line → Type 0
RefusesOldTags h =
    (first middle after : List Line) (l : Line) → h ≡ first ++ (middle ++ l ∷ after) →
    (drive object tag : ℕ) → tag_in (drive_after first drive) object ≡ Some tag →
    (bytes : List ℕ) (c : Command) → Judges (first ++ middle) l drive bytes Perform → reading bytes ≡ Ok c →
    c.object ≡ object → tag ≤ c.capability.tag
