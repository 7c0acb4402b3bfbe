use Rattle.parity_code.proofs.RepairLaws.{repairs_of_both, both_named}
use Rattle.parity_code.proofs.repair.p_and_q.Goals as goal

pub returns-clause-value : goal.returns-clause-value
returns-clause-value c = both_named c.args.units c.args.x c.args.y c.requires.p c.requires.q

pub returns-clause-repair : goal.returns-clause-repair
returns-clause-repair c = repairs_of_both c.args.units c.args.x c.args.y c.requires.p c.requires.q
