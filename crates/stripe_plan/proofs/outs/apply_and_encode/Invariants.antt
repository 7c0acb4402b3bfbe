use Rattle.std.proofs.Common.{◌≡◌, ◌-◌, ◌++◌, length}
use Rattle.std.specs.List.{range_with_len}
use Rattle.stripe_plan.specs.Touched.{stripes}
use Rattle.stripe_plan.specs.Plans.{columns_of, span, written}
use Rattle.stripe_plan.proofs.outs.apply_and_encode.Given as goal

abbrev pub invariant-loop-stripe : goal.invariant-loop-stripe
invariant-loop-stripe l =
    l.made ++ written l.fn.map (span l.fn.off (length l.fn.bytes)) l.fn.bytes (columns_of l.fn.map l.fn.got) l.fn.out.components
    (range_with_len l.stripe (l.end - l.stripe))
    ≡ written l.fn.map (span l.fn.off (length l.fn.bytes)) l.fn.bytes (columns_of l.fn.map l.fn.got) l.fn.out.components
    (stripes l.fn.map (span l.fn.off (length l.fn.bytes)))
