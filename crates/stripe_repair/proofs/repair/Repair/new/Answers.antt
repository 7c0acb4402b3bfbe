use Rattle.stripe_repair.proofs.PieceLaws.{ranges_are}
use Rattle.stripe_repair.proofs.repair.Repair.new.Goals as goal

pub invariant_of-result : goal.invariant_of-result
invariant_of-result c =
    rw (c.new.ensures, c.raw.ensures.value) (ranges_are c.args.map.now.unit c.args.ranges c.known.ensures.short_unit c.requires)
