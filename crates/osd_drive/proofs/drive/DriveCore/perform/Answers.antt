use Rattle.std.proofs.Common.{◌≡◌, sym}
use Rattle.osd_drive.specs.declared.verdict.Verdict.TheVariants.{Perform}
use Rattle.osd_drive.specs.State.{view_of}
use Rattle.osd_drive.specs.Table.{late_fault_of}
use Rattle.osd_drive.proofs.ShortLaws.{keeps-short, reply-short}
use Rattle.osd_drive.proofs.drive.DriveCore.perform.Goals as goal
use Rattle.osd_drive.proofs.drive.DriveCore.perform.Goals.{in-Ok, in-Err}

pub invariant_of-self : goal.invariant_of-self
invariant_of-self c =
    let late : late_fault_of (view_of c.self.inside.store c.args.c.now) c.args.c.now ≡ Perform =
    rw (sym c.self.view_is) at c.requires.late in
    elim c.match-perform_on.branch [
      | in-Ok w ↦ rw w.in-Ok.ensures.state (keeps-short c.self.inside.store c.args.c.now late c.self.invariant)
      | in-Err w ↦ rw w.in-Err.ensures.err c.self.invariant
    ]

pub returns-clause-short : goal.returns-clause-short
returns-clause-short c =
    let late : late_fault_of (view_of c.self.inside.store c.args.c.now) c.args.c.now ≡ Perform =
    rw (sym c.self.view_is) at c.requires.late in
    elim c.match-perform_on.branch [
      | in-Ok w ↦ rw (w.result-is, w.in-Ok.ensures.reply) (reply-short c.self.inside.store c.args.c.now late c.self.invariant)
      | in-Err w ↦ rw w.result-is tt
    ]
