use Rattle.std.proofs.Common.{◌≡◌, ◌+◌, ◌-◌, ◌<◌}
use Rattle.std.specs.List.{range_with_len}
use Rattle.stripe_plan.specs.Touched.{stripes}
use Rattle.stripe_plan.specs.Lost.{turn_of, unwritable}
use Rattle.stripe_plan.proofs.Turns.{AreSeen}
use Rattle.stripe_plan.proofs.lost.check_writable.Given as goal

abbrev pub invariant-loop : goal.invariant-loop
invariant-loop l =
    (unwritable l.fn.map l.fn.out.components
    (range_with_len l.stripe (l.end - l.stripe)) ≡ unwritable l.fn.map l.fn.out.components (stripes l.fn.map l.fn.range))
    × (l.stripe < l.end → turn_of l.fn.map l.stripe ≡ turn_of l.fn.map l.first + l.counter)
    × AreSeen l.fn.map l.fn.out.components (turn_of l.fn.map l.first) l.counter
