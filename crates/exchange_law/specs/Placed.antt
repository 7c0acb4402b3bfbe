-- Commands that lie where their capability allows.
use Rattle.std.specs.Prelude.{◌≡◌, ◌⊎◌, ℕ, ◌+◌, ◌≤◌, false, List, bit_and, nat_eq, Ok}
use Rattle.osd_commands.specs.declared.actions.Action.TheVariants.{Read, Write}
use Rattle.osd_commands.specs.declared.commands.Command.{Command}
use Rattle.osd_commands.specs.Actions.{right_of}
use Rattle.osd_commands.specs.Commands.{reading, spelling}
use Rattle.osd_drive.specs.declared.limits.TheConstants.{FIRST_PARTITION}
use Rattle.osd_drive.specs.declared.verdict.Verdict.{Verdict}
use Rattle.osd_drive.specs.declared.verdict.Verdict.TheVariants.{Rights, WrongObject, Range}
use Rattle.osd_drive.specs.State.{DriveState}
use Rattle.osd_drive.specs.Table.{first_fault}

-- A READ or a WRITE for the capability's own object, which is on this drive. The capability has the right, and the
-- bytes lie in its range.
pub record IsPlaced (drive : ℕ) (c : Command) : Type 0 where
  pub partition : c.partition ≡ c.capability.partition
  pub here : c.partition ≡ FIRST_PARTITION + drive
  pub object : c.object ≡ c.capability.object
  pub action : (c.action ≡ Read) ⊎ (c.action ≡ Write)
  pub right : nat_eq (bit_and c.capability.rights (right_of c.action)) 0 ≡ false
  pub first : c.capability.range_start ≤ c.offset
  pub end : c.offset + c.length ≤ c.capability.range_start + c.capability.range_len

-- these bytes spell such a command, and whatever a drive reads in them is one
pub record SpellsPlaced (drive : ℕ) (bytes : List ℕ) : Type 0 where
  pub command : Command
  pub spells : bytes ≡ spelling command
  pub placed : IsPlaced drive command
  pub read : (c : Command) → reading bytes ≡ Ok c → IsPlaced drive c

-- a verdict on where a command lies
abbrev pub IsMisplaced : Verdict → Type 0
IsMisplaced Rights = Unit {0}
IsMisplaced WrongObject = Unit {0}
IsMisplaced Range = Unit {0}
IsMisplaced v = ⊥

-- no drive gives it on such a command, whatever its state and the time
abbrev pub PlacedAreNeverMisplaced : Type 0
PlacedAreNeverMisplaced =
    (d : DriveState) (now : ℕ) (c : Command) → IsPlaced d.number c → IsMisplaced (first_fault d now c) → ⊥
