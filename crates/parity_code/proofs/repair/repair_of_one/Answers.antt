use Rattle.std.proofs.Common.{arith}
use Rattle.parity_code.proofs.RepairLaws.{repair_by_p, repair_by_q, by_p_named, by_q_named}
use Rattle.parity_code.proofs.repair.repair_of_one.Goals as goal

pub returns-then-x-units-clause-value : goal.returns-then-x-units-clause-value
returns-then-x-units-clause-value c = by_p_named c.args.units c.args.x (omega arith)

pub returns-then-x-units-clause-repair : goal.returns-then-x-units-clause-repair
returns-then-x-units-clause-repair c = repair_by_p c.args.units c.args.x (omega arith)

pub returns-else-x-units-clause-value : goal.returns-else-x-units-clause-value
returns-else-x-units-clause-value c = by_q_named c.args.units c.args.x (omega arith)

pub returns-else-x-units-clause-repair : goal.returns-else-x-units-clause-repair
returns-else-x-units-clause-repair c = repair_by_q c.args.units c.args.x (omega arith)
