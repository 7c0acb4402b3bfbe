-- What a reply tells of its drive.
use Rattle.std.specs.Prelude.{◌≡◌, ℕ, true, List, Option, Some, Ok}
use Rattle.osd_commands.specs.declared.commands.Command.{Command}
use Rattle.osd_commands.specs.declared.replies.Reply.{Reply}
use Rattle.osd_commands.specs.Commands.{reading}
use Rattle.osd_drive.specs.declared.verdict.Verdict.TheVariants.{Perform, Tag, OldFormat}
use Rattle.osd_drive.specs.Table.{is_mutating}
use Rattle.osd_drive.specs.Effects.{verdict_number}
use Rattle.scenario_text.specs.declared.line.Party.{Party}
use Rattle.scenario_text.specs.declared.line.Line.{Line}
use Rattle.world_history.specs.State.{DriveAt}
use Rattle.world_history.specs.Drives.{judges}
use Rattle.world_history.specs.ReadDrives.{drive_after}
use Rattle.history_law.specs.Judging.{Replies}
use Rattle.history_law.specs.Spent.{IsSpent}
use Rattle.history_law.specs.Tags.{tag_in}

-- A change that was performed, now or before, is spent, and so is a command of an old format. Where the tag is another,
-- the reply has the object's.
pub record TellsOf (o : Option DriveAt) (c : Command) (r : Reply) : Type 0 where
  pub performed : r.verdict ≡ verdict_number Perform → is_mutating c.action ≡ true → IsSpent o c
  pub old : r.verdict ≡ verdict_number OldFormat → IsSpent o c
  pub tag : (other : ℕ) → r.verdict ≡ verdict_number (Tag other) → tag_in o c.object ≡ Some r.detail

-- so does each message of a drive, of the drive as it is then
abbrev pub RepliesTell : Type 0
RepliesTell =
    (before : List Line) (drive : ℕ) (to : Party) (bytes : List ℕ) (r : Replies before drive to bytes) (c : Command) →
    reading r.message.bytes ≡ Ok c →
    TellsOf (drive_after before drive) c (judges r.there (reading r.message.bytes)).reply
