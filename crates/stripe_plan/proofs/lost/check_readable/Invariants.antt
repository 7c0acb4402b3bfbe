use Rattle.std.proofs.Common.{◌≡◌, ◌-◌}
use Rattle.std.specs.List.{range_with_len}
use Rattle.stripe_plan.specs.Touched.{stripes}
use Rattle.stripe_plan.specs.Lost.{unreadable}
use Rattle.stripe_plan.proofs.lost.check_readable.Given as goal

abbrev pub invariant-loop-stripe : goal.invariant-loop-stripe
invariant-loop-stripe l =
    unreadable l.fn.map l.fn.range l.fn.out.components
    (range_with_len l.stripe (l.end - l.stripe)) ≡ unreadable l.fn.map l.fn.range l.fn.out.components
    (stripes l.fn.map l.fn.range)
