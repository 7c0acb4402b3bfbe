use Rattle.std.proofs.Common.{◌≡◌, ◌-◌, ◌++◌}
use Rattle.data_map.specs.Striping.{group_width}
use Rattle.stripe_plan.specs.Plans.{columns_of, written_stripe}
use Rattle.stripe_plan.proofs.outs.push_part.Given as goal

abbrev pub invariant-loop-place : goal.invariant-loop-place
invariant-loop-place l =
    l.made ++ written_stripe l.fn.write.map.now l.fn.write.range l.fn.write.bytes.now
    (columns_of l.fn.write.map.now l.fn.write.got.now) l.fn.write.out.now.components l.fn.stripe l.place
    (group_width l.fn.write.map.now - l.place)
    ≡ l.fn.made ++ written_stripe l.fn.write.map.now l.fn.write.range l.fn.write.bytes.now
    (columns_of l.fn.write.map.now l.fn.write.got.now) l.fn.write.out.now.components l.fn.stripe 0
    (group_width l.fn.write.map.now)
