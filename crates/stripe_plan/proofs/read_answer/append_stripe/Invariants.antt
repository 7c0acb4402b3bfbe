use Rattle.std.proofs.Common.{◌≡◌, ◌+◌, ◌*◌, ◌++◌}
use Rattle.data_map.specs.Striping.{stripe_length}
use Rattle.stripe_plan.specs.Touched.{clamped, unit_start}
use Rattle.stripe_plan.specs.Words.{answered_between}
use Rattle.stripe_plan.specs.Plans.{columns_of}
use Rattle.stripe_plan.proofs.read_answer.append_stripe.Given as goal

abbrev pub invariant-loop-unit : goal.invariant-loop-unit
invariant-loop-unit l =
    l.answer ++ answered_between l.fn.map (columns_of l.fn.map l.fn.got) l.fn.out.components
    (clamped l.fn.range (unit_start l.fn.map l.fn.stripe l.unit))
    (clamped l.fn.range ((l.fn.stripe + 1) * stripe_length l.fn.map))
    ≡ l.fn.answer ++ answered_between l.fn.map (columns_of l.fn.map l.fn.got) l.fn.out.components
    (clamped l.fn.range (l.fn.stripe * stripe_length l.fn.map))
    (clamped l.fn.range ((l.fn.stripe + 1) * stripe_length l.fn.map))
