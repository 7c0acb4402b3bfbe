use Rattle.std.proofs.Common.{[], IsTrue, refl, sym, subst}
use Rattle.gate_log.specs.declared.header.TheConstants.{HEADER_SIZE}
use Rattle.gate_log.proofs.Appended.{none_appended}
use Rattle.gate_log.proofs.Reading.{begins}
use Rattle.gate_log.proofs.log.GateLog.create.Goals as goal

pub returns-in-Ok-clause-made : goal.returns-in-Ok-clause-made
returns-in-Ok-clause-made g c told =
    begins g.D.Disk.tells g.D.Disk.seen g.D.Disk.may_leave g.D.Disk.moment g.D.Disk.left_since c.args.header.now []
    c.write_first.new.disk 0 HEADER_SIZE
    (subst IsTrue (sym c.in-Ok.ensures.tells) told) c.in-Ok.ensures.whole refl (c.in-Ok.ensures.bytes told)
    (c.in-Ok.ensures.durable told)

pub returns-in-Ok-clause-written : goal.returns-in-Ok-clause-written
returns-in-Ok-clause-written g c told =
    none_appended c.args.header.now _ [] c.in-Ok.ensures.whole (c.in-Ok.ensures.bytes told)
