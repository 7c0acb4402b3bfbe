use Rattle.std.proofs.Common.{ap, ◌∙◌, arith}
use Rattle.gf256.specs.Field.{product}
use Rattle.parity_code.proofs.RepairLaws.{powers_apart, repairs_of_units, units_named}
use Rattle.parity_code.proofs.repair.two_units.Goals as goal

pub inverse-by_q-requires : goal.inverse-by_q-requires
inverse-by_q-requires c = rw (c.power.ensures, c.power-2.ensures) (powers_apart c.args.x c.args.y c.requires.rising (omega arith))

pub returns-clause-value : goal.returns-clause-value
returns-clause-value c =
    units_named c.args.units c.args.x c.args.y c.inverse-by_q.result c.mul-by_p.result c.requires.last
    (rw (c.power.ensures, c.power-2.ensures) at c.inverse-by_q.ensures.value)
    (c.mul-by_p.ensures ∙ ap (product c.inverse-by_q.result) c.power-3.ensures)

pub returns-clause-repair : goal.returns-clause-repair
returns-clause-repair c =
    let inverts = rw (c.power.ensures, c.power-2.ensures) at c.inverse-by_q.ensures.undoes in
    repairs_of_units c.args.units c.args.x c.args.y c.inverse-by_q.result c.mul-by_p.result c.requires.rising c.requires.last
    c.inverse-by_q.type_inv c.mul-by_p.type_inv inverts
    (c.mul-by_p.ensures ∙ ap (product c.inverse-by_q.result) c.power-3.ensures)
