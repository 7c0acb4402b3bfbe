use Rattle.data_map.proofs.Inverse.{byte_low}
use Rattle.data_map.proofs.map.DataMap.unit_at.Goals as goal

pub returns-clause-bound : goal.returns-clause-bound
returns-clause-bound c =
    rw (c.stripe_in-stripe.ensures.value, c.group_width-width.ensures.value, c.raw.ensures.value)
    (byte_low c.args.self.now c.args.position c.args.offset c.raw.ensures.usable c.requires.position c.requires.offset)
