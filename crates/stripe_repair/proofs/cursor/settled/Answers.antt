use Rattle.std.proofs.Common.{◌∙◌}
use Rattle.stripe_repair.proofs.CursorLaws.{to_next, item_or}
use Rattle.stripe_repair.proofs.cursor.settled.Goals as goal

pub loop-spot-preserved : goal.loop-spot-preserved
loop-spot-preserved c = record {
  same = to_next c.args.unit c.args.ranges.now c.loop-spot.spot _ c.loop-spot-test.true c.if-spot-ranges.true
      (item_or c.args.ranges.now c.loop-spot.spot.next _ c.if-spot-ranges.true) ∙ c.loop-spot.invariant.same;
  column = c.requires.unit;
}
