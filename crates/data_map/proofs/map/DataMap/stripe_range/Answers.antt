use Rattle.std.proofs.Common.{arith, ◌+◌, ◌-◌}
use Rattle.data_map.proofs.Covering.{stripes_hold}
use Rattle.data_map.proofs.map.DataMap.stripe_range.Goals as goal

pub returns-clause-all : goal.returns-clause-all
returns-clause-all c =
    rw c.stripe_length-length.ensures.value
    (stripes_hold c.args.self.now c.args.off c.args.len
    (rw c.stripe_length-length.ensures.value at c.stripe_length-length.ensures.bound.0))

pub returns-clause-least : goal.returns-clause-least
returns-clause-least c = λ first end h. rw c.stripe_length-length.ensures.value (
  (h c.args.off (omega arith) (omega (arith, c.requires.some))).0,
  omega (arith, (h (c.args.off + c.args.len - 1) (omega (arith, c.requires.some)) (omega (arith, c.requires.some))).1),
)
