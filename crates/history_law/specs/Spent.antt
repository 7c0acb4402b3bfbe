-- Commands that a drive will not perform any more.
use Rattle.std.specs.Prelude.{◌≡◌, ◌⊎◌, ℕ, ◌≤◌, ◌<◌, true, List, [], ◌∷◌, ◌++◌, Option, Some, None, Ok}
use Rattle.osd_commands.specs.declared.actions.Action.TheVariants.{Create}
use Rattle.osd_commands.specs.declared.commands.Command.{Command}
use Rattle.osd_commands.specs.Commands.{reading}
use Rattle.osd_objects.specs.declared.lanes.LaneEntry.{LaneEntry}
use Rattle.osd_objects.specs.declared.object.StoredObject.{StoredObject}
use Rattle.osd_objects.specs.Lanes.{lane_of}
use Rattle.osd_objects.specs.Store.{object_at}
use Rattle.osd_drive.specs.Table.{is_mutating}
use Rattle.scenario_text.specs.declared.line.Verdict.TheVariants.{Perform}
use Rattle.scenario_text.specs.declared.line.Line.{Line}
use Rattle.world_history.specs.State.{DriveAt}
use Rattle.world_history.specs.ReadDrives.{drive_after}
use Rattle.history_law.specs.Judging.{Judges}

-- a lane has this nonce, or a later one
abbrev pub HasPassed : Option LaneEntry → (nonce : ℕ) → Type 0
HasPassed None n = ⊥
HasPassed (Some l) n = n ≤ l.nonce

-- The object is there, and was made once; or it has a later tag; or its holder's lane has that nonce or a later one.
abbrev pub IsSpentOn : Option StoredObject → Command → Type 0
IsSpentOn None c = ⊥
IsSpentOn (Some x) c =
    (c.action ≡ Create) ⊎ ((c.capability.tag < x.tag) ⊎
    ((is_mutating c.action ≡ true) × HasPassed (lane_of x.lanes c.capability.holder) c.nonce))

-- A command is spent at a drive that has failed, or takes no format as old any more, or on whose object it is.
abbrev pub IsSpent : Option DriveAt → Command → Type 0
IsSpent None c = ⊥
IsSpent (Some a) c =
    (a.failed ≡ true) ⊎ ((c.capability.format < a.state.least) ⊎ IsSpentOn (object_at a.state.store c.object) c)

-- What is spent stays spent, and isn't performed. A change is spent once it was performed, so none is performed twice.
pub record Spends (h : List Line) : Type 0 where
  pub stays : (first middle after : List Line) → h ≡ first ++ (middle ++ after) → (drive : ℕ) (c : Command) →
      IsSpent (drive_after first drive) c → IsSpent (drive_after (first ++ middle) drive) c
  pub refuses : (before : List Line) (l : Line) (drive : ℕ) (bytes : List ℕ) (c : Command) →
      Judges before l drive bytes Perform → reading bytes ≡ Ok c → IsSpent (drive_after before drive) c → ⊥
  pub performed : (before : List Line) (l : Line) (drive : ℕ) (bytes : List ℕ) (c : Command) →
      Judges before l drive bytes Perform → reading bytes ≡ Ok c → is_mutating c.action ≡ true →
      IsSpent (drive_after (before ++ l ∷ []) drive) c
  pub once : (first middle after : List Line) (l m : Line) → h ≡ first ++ l ∷ (middle ++ m ∷ after) →
      (drive : ℕ) (bytes : List ℕ) (c : Command) → reading bytes ≡ Ok c → is_mutating c.action ≡ true →
      Judges first l drive bytes Perform → Judges (first ++ l ∷ middle) m drive bytes Perform → ⊥
