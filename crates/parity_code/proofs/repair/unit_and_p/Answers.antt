use Rattle.std.proofs.Common.{arith}
use Rattle.gf256.proofs.Laws.{two_to_pos}
use Rattle.parity_code.proofs.RepairLaws.{repairs_with_p, unit_and_p_named}
use Rattle.parity_code.proofs.repair.unit_and_p.Goals as goal

pub inverse-by_q-requires : goal.inverse-by_q-requires
inverse-by_q-requires c = rw c.power.ensures (λ e. omega (arith, two_to_pos c.args.x))

pub returns-clause-value : goal.returns-clause-value
returns-clause-value c =
    unit_and_p_named c.args.units c.args.x c.args.y c.inverse-by_q.result c.requires.p
    (rw c.power.ensures at c.inverse-by_q.ensures.value)

pub returns-clause-repair : goal.returns-clause-repair
returns-clause-repair c =
    let inverts = rw c.power.ensures at c.inverse-by_q.ensures.undoes in
    repairs_with_p c.args.units c.args.x c.args.y c.inverse-by_q.result c.requires.unit c.requires.p c.inverse-by_q.type_inv
    inverts
