-- The law of repeats: a WRITE or a SET ATTR that was performed can be given again.
use Rattle.std.specs.Prelude.{◌≡◌, ℕ, length, ◌||◌, IsTrue, false}
use Rattle.osd_commands.specs.declared.commands.Command.{Command}
use Rattle.osd_commands.specs.Commands.{allows}
use Rattle.osd_drive.specs.declared.verdict.Verdict.TheVariants.{Perform, Again}
use Rattle.osd_drive.specs.State.{DriveState}
use Rattle.osd_drive.specs.Table.{is_write, is_set_attr, is_expired, first_fault}
use Rattle.osd_drive.specs.Effects.{performed, performed_reply, reply_by, state_by}

-- the command gets the verdict Again, the same reply as before, and changes nothing
pub record IsAnsweredAlike (d : DriveState) (later : ℕ) (c : Command) : Type 0 where
  pub verdict : first_fault (performed d c) later c ≡ Again
  pub reply : reply_by Again (performed d c) c ≡ performed_reply d c
  pub state : state_by Again (performed d c) c ≡ performed d c

-- of every drive, and of every command of these two whose payload is as long as it says: where it was performed, it is
-- answered alike until it expires
abbrev pub AnswersRepeats : Type 0
AnswersRepeats =
    (d : DriveState) (now later : ℕ) (c : Command) → first_fault d now c ≡ Perform →
    IsTrue (allows c.action c.length (length c.payload)) → IsTrue (is_write c.action || is_set_attr c.action) →
    is_expired later c ≡ false → IsAnsweredAlike d later c
