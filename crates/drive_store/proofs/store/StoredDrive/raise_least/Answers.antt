use Rattle.std.proofs.Common.{◌≡◌, ◌≤◌, ◌∙◌, sym, arith}
use Rattle.gate_log.specs.Standing.{disk_of}
use Rattle.drive_store.specs.declared.record.TheConstants.{SECOND_FORMAT}
use Rattle.drive_store.proofs.RecordLaws.{raise_step, raised_two, raises_nothing}
use Rattle.drive_store.proofs.StoreLaws.{either_so, kept_format, kept_so}
use Rattle.drive_store.proofs.store.StoredDrive.raise_least.Goals as goal
use Rattle.drive_store.proofs.store.StoredDrive.raise_least.Goals.{then-format-ne-SECOND_FORMAT-via-then-format-ne-SECOND_FORMAT, then-format-ne-SECOND_FORMAT-via-else-format-ne-SECOND_FORMAT+then-least_format-ge-SECOND_FORMAT}

pub returns-then-format-ne-SECOND_FORMAT-clause-kept : goal.returns-then-format-ne-SECOND_FORMAT-clause-kept
returns-then-format-ne-SECOND_FORMAT-clause-kept g c kept =
    let low : c.args.format ≡ SECOND_FORMAT → SECOND_FORMAT ≤ c.args.self.now.core.least =
    λ two. elim c.then-format-ne-SECOND_FORMAT.branch [
      | then-format-ne-SECOND_FORMAT-via-then-format-ne-SECOND_FORMAT w ↦ omega (arith, two, w.if-format-ne-SECOND_FORMAT.true)
      | then-format-ne-SECOND_FORMAT-via-else-format-ne-SECOND_FORMAT+then-least_format-ge-SECOND_FORMAT w ↦ omega
          (arith, w.if-least_format-ge-SECOND_FORMAT.true, w.least_format.ensures)
    ] in
    kept_so g.D.Disk.tells g.D.Disk.seen g.D.Disk.may_leave g.D.Disk.moment g.D.Disk.left_since c.args.self.now.core
    c.raise_least.new.self c.args.self.now.log
    (c.raise_least.ensures
    ∙ raises_nothing c.args.self.now.core c.args.format
    (kept_format g.D.Disk.tells g.D.Disk.seen g.D.Disk.may_leave g.D.Disk.moment g.D.Disk.left_since c.args.self.now.core
    c.args.self.now.log kept) c.requires.known low) kept

pub returns-in-Ok-clause-any_moment : goal.returns-in-Ok-clause-any_moment
returns-in-Ok-clause-any_moment g c kept =
    let d = c.args.self.now.core in
    let step = raise_step d (c.raise_least-2.new.self) c.in_ok-entry.entry c.raise_least-2.ensures c.in_ok-entry.ensures in
    either_so g.D.Disk.tells g.D.Disk.seen g.D.Disk.may_leave g.D.Disk.moment g.D.Disk.left_since (disk_of c.args.self.now.log)
    (disk_of c.log_step.new.self.log) d c.raise_least-2.new.self _
    (raised_two d c.args.format c.if-format-ne-SECOND_FORMAT.false ∙ sym c.raise_least-2.ensures)
    (c.log_step.ensures.any_moment d step kept)

pub returns-in-Ok-clause-kept : goal.returns-in-Ok-clause-kept
returns-in-Ok-clause-kept g c kept =
    let d = c.args.self.now.core in
    c.in-Ok.ensures.kept d
    (raise_step d (c.raise_least-2.new.self) c.in_ok-entry.entry c.raise_least-2.ensures c.in_ok-entry.ensures) kept

pub returns-clause-any_moment : goal.returns-clause-any_moment
returns-clause-any_moment g c kept =
    let d = c.args.self.now.core in
    let step = raise_step d (c.raise_least-2.new.self) c.in_ok-entry.entry c.raise_least-2.ensures c.in_ok-entry.ensures in
    either_so g.D.Disk.tells g.D.Disk.seen g.D.Disk.may_leave g.D.Disk.moment g.D.Disk.left_since (disk_of c.args.self.now.log)
    (disk_of c.log_step.new.self.log) d c.raise_least-2.new.self _
    (raised_two d c.args.format c.if-format-ne-SECOND_FORMAT.false ∙ sym c.raise_least-2.ensures)
    (c.log_step.ensures.any_moment d step kept)
