use Rattle.std.proofs.Common.{◌∙◌, sym, subst}
use Rattle.osd_drive.specs.State.{DriveState}
use Rattle.gate_log.specs.Standing.{header_of, read_disk}
use Rattle.drive_store.specs.Opening.{HasTaken}
use Rattle.drive_store.proofs.OpeningLaws.{other_header_at, taken_first, taken_kept}
use Rattle.drive_store.proofs.store.StoredDrive.open.Goals as goal

pub returns-in_default-clause-refused : goal.returns-in_default-clause-refused
returns-in_default-clause-refused g c told =
    let begun = c.in-Ok.ensures.begun told in
    other_header_at g.D.Disk.tells g.D.Disk.seen g.D.Disk.may_leave (header_of c.in-Ok.reader) c.args.keys
    (read_disk c.in-Ok.reader) _ _ (g.D.Disk.seen c.args.disk) begun.stands c.in-Ok.ensures.disk.seen_same
    (λ number capacity low fits is. c.in_default.ensures.none number capacity low fits (c.header.ensures ∙ is))

pub returns-in-Ok-take_records-clause-kept : goal.returns-in-Ok-take_records-clause-kept
returns-in-Ok-take_records-clause-kept g c told =
    let header = c.in-Some.ensures.some in
    let first = taken_first g.D.Disk.tells g.D.Disk.seen g.D.Disk.may_leave c.in-Some.header.number c.in-Some.header.capacity
    c.args.keys (header_of c.in-Ok.reader) c.in-Ok.reader header.0 header.1.0
    (sym c.header.ensures ∙ header.1.1) (c.in-Ok.ensures.begun told) in
    let taken = c.in-Ok-take_records.ensures.taken
    (subst (λ (d : DriveState). HasTaken g.D.Disk.tells g.D.Disk.seen g.D.Disk.may_leave d c.in-Ok.reader)
    (sym c.new-core.ensures) first) in
    rw (c.of.ensures.0, c.of.ensures.1)
    (taken_kept g.D.Disk.tells g.D.Disk.seen g.D.Disk.may_leave c.take_records.new.core c.take_records.new.reader
    c.into_log.result taken c.into_log.ensures.log)
