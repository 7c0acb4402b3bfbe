-- One drive: what no command changes of it, and what it makes of bytes.
use Rattle.std.specs.Prelude.{ℕ, [], ◌∷◌, ◌≡◌, ◌≤◌, ◌⊎◌, true, Result}
use Rattle.osd_commands.specs.declared.commands.Command.{Command}
use Rattle.osd_commands.specs.declared.commands.CommandErr.{CommandErr}
use Rattle.osd_drive.specs.declared.limits.TheConstants.{FIRST_FORMAT}
use Rattle.osd_drive.specs.Effects.{after_reading, reply_to_reading}
use Rattle.osd_drive.specs.State.{DriveState}
use Rattle.world_history.specs.State.{DriveAt}
use Rattle.world_history.specs.Drives.{first_key, verdict_on, Judged}
use Rattle.world_parties.specs.declared.backing.DriveMake.{DriveMake}
use Rattle.world_parties.specs.declared.judging.Judged.{Judged as Told}

-- the drive has the number, the one key and the capacity that it was made with, and a least format
pub record IsMadeOf (made : DriveMake) (state : DriveState) : Type 0 where
  pub number_is : state.number ≡ made.number
  pub keys_are : state.keys ≡ first_key made.key ∷ []
  pub capacity_is : state.store.capacity ≡ made.capacity
  pub least_is : FIRST_FORMAT ≤ state.least

-- the drive then, its verdict and its reply are those of the world
pub record Judges (j : Judged) (new : DriveAt) (told : Told) : Type 0 where
  pub drive : new ≡ j.drive
  pub verdict : told.verdict ≡ j.verdict
  pub reply : told.reply ≡ j.reply

-- the same, of the drive without its clock
pub record JudgesAt (old : DriveState) (clock : ℕ) (reading : Result Command CommandErr) (new : DriveState) (told : Told)
    : Type 0 where
  pub state : new ≡ after_reading old clock reading
  pub verdict : told.verdict ≡ verdict_on old clock reading
  pub reply : told.reply ≡ reply_to_reading old clock reading

-- Nothing changed, or a stored drive became another: it did what was asked, and doesn't answer.
abbrev pub LeavesEither : (old new after : DriveAt) → Type 0
LeavesEither old new after = (new ≡ old) ⊎ ((old.stored ≡ true) × (new ≡ after))
