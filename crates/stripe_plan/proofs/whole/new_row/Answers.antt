use Rattle.std.proofs.Common.{◌∙◌, ◌<◌, arith}
use Rattle.data_map.specs.Striping.{data_units}
use Rattle.stripe_plan.proofs.Wholes.{own_all, row_new}
use Rattle.stripe_plan.proofs.whole.new_row.Goals as goal

pub new_bytes-requires-clause-some : goal.new_bytes-requires-clause-some
new_bytes-requires-clause-some c =
    let low : c.args.unit < data_units c.args.map.now = omega (arith, c.if-unit-data_units.true, c.data_units.ensures.value) in
    rw (c.own_columns-own.ensures.value
    ∙ own_all c.args.map.now c.args.range c.args.stripe c.args.unit c.requires.all low) c.known.ensures.some_unit

pub returns-then-unit-data_units : goal.returns-then-unit-data_units
returns-then-unit-data_units c =
    row_new c.args.map.now c.args.range c.args.bytes.now c.args.stripe c.args.unit c.own_columns-own.result _ c.requires.all
    (omega (arith, c.if-unit-data_units.true, c.data_units.ensures.value)) c.own_columns-own.ensures.value c.in_ok-row.ensures
