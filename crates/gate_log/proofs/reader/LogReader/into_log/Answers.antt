use Rattle.gate_log.proofs.Reading.{stands_moved}
use Rattle.gate_log.proofs.reader.LogReader.into_log.Goals as goal

pub returns-clause-log : goal.returns-clause-log
returns-clause-log g c header bodies h =
    stands_moved g.D.Disk.tells g.D.Disk.seen g.D.Disk.may_leave g.D.Disk.moment g.D.Disk.left_since header bodies
    c.args.self.disk c.ending_at.result.disk c.args.self.at c.ending_at.result.end c.args.self.gate
    c.ending_at.ensures.disk c.ending_at.ensures.end c.requires h.stands
