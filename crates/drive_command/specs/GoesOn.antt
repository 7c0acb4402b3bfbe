-- What a device server has handled, and that it answered all of it.
use Rattle.std.specs.Prelude.{◌≡◌, false, List, []}
use Rattle.drive_command.specs.Records.{Handled}
use Rattle.drive_command.specs.declared.device_server.DeviceServer.{Ghosts}
use Rattle.drive_command.specs.Kept.{Carries}

-- it has handled these records, of which the last may have been cut off
abbrev pub HasHandled : {H : Type 0} → Ghosts H → (handled cut_off : List Handled) → (old new : H) → Type 0
HasHandled s handled cut_off old new = Carries s.drive s.keeps s.moment s.left_since s.stands_for handled cut_off old new

-- it has handled these records, each to its end: what kept the drive keeps it, more may come, and no call of the disk failed
pub record WentOn {H : Type 0} (s : Ghosts H) (handled : List Handled) (old new : H) : Type 0 where
  pub carries : HasHandled s handled [] old new
  pub keeps : s.keeps old → s.keeps new
  pub goes_on : s.is_over new ≡ false
  pub same : s.faults new ≡ s.faults old
