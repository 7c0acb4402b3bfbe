use Rattle.parity_code.proofs.RepairLaws.{repairs_with_q, unit_and_q_named}
use Rattle.parity_code.proofs.repair.unit_and_q.Goals as goal

pub returns-clause-value : goal.returns-clause-value
returns-clause-value c = rw c.power.ensures (unit_and_q_named c.args.units c.args.x c.args.y c.requires.unit c.requires.q)

pub returns-clause-repair : goal.returns-clause-repair
returns-clause-repair c = rw c.power.ensures (repairs_with_q c.args.units c.args.x c.args.y c.requires.unit c.requires.q)
