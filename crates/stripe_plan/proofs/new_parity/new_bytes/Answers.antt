use Rattle.std.proofs.Common.{◌∙◌, arith}
use Rattle.stripe_plan.proofs.Exchanges.{own_first, own_end}
use Rattle.stripe_plan.proofs.Parities.{own_bytes}
use Rattle.stripe_plan.proofs.new_parity.new_bytes.Goals as goal

pub new_part-requires-clause-from : goal.new_part-requires-clause-from
new_part-requires-clause-from c =
    omega (arith, own_first c.args.map.now c.args.range c.args.stripe c.args.unit c.args.columns c.requires.own)

pub new_part-requires-clause-to : goal.new_part-requires-clause-to
new_part-requires-clause-to c =
    omega (arith, own_end c.args.map.now c.args.range c.args.stripe c.args.unit c.args.columns c.requires.own, c.requires.some)

pub returns : goal.returns
returns c =
    own_bytes c.args.map.now c.args.range c.args.bytes.now c.args.stripe c.args.unit c.args.columns _ c.requires.bytes
    c.requires.own c.requires.some
    (c.in_ok-copied.ensures ∙ c.new_part.ensures.value)
