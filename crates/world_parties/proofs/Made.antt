-- What is done with a drive leaves how it was made.
use Rattle.std.proofs.Common.{ℕ, Result, Ok, Err, ap, ◌∙◌, arith}
use Rattle.osd_commands.specs.declared.commands.Command.{Command}
use Rattle.osd_commands.specs.declared.commands.CommandErr.{CommandErr}
use Rattle.osd_drive.specs.declared.verdict.Verdict.{Verdict}
use Rattle.osd_drive.specs.declared.verdict.Verdict.TheVariants.{Perform}
use Rattle.osd_drive.specs.State.{DriveState}
use Rattle.osd_drive.specs.Table.{first_fault}
use Rattle.osd_drive.specs.Effects.{after_reading, state_by}
use Rattle.drive_store.specs.Records.{raised}
use Rattle.drive_store.proofs.RecordLaws.{made_so}
use Rattle.world_parties.specs.declared.backing.DriveMake.{DriveMake}
use Rattle.world_parties.specs.Drive.{IsMadeOf}

by_verdict : (made : DriveMake) (d : DriveState) (v : Verdict) (c : Command) → IsMadeOf made d → IsMadeOf made (state_by v d c)
by_verdict made d Perform c is = record {
  number_is = is.number_is;
  keys_are = is.keys_are;
  capacity_is = ap (λ (x : DriveState). x.store.capacity) (made_so d c) ∙ is.capacity_is;
  least_is = is.least_is;
}
by_verdict made d v c is = is

pub made_after : (made : DriveMake) (d : DriveState) (now : ℕ) (r : Result Command CommandErr) → IsMadeOf made d →
    IsMadeOf made (after_reading d now r)
made_after made d now (Ok c) is = by_verdict made d (first_fault d now c) c is
made_after made d now (Err e) is = is

pub made_raised : (made : DriveMake) (d : DriveState) (format : ℕ) → IsMadeOf made d → IsMadeOf made (raised d format)
made_raised made d format is = record {
  number_is = is.number_is;
  keys_are = is.keys_are;
  capacity_is = is.capacity_is;
  least_is = omega (arith, is.least_is);
}
