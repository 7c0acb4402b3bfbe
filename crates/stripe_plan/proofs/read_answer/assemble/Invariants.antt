use Rattle.std.proofs.Common.{◌≡◌, ◌+◌, ◌*◌, ◌++◌}
use Rattle.data_map.specs.Striping.{stripe_length}
use Rattle.stripe_plan.specs.Touched.{clamped}
use Rattle.stripe_plan.specs.Words.{answered, answered_between}
use Rattle.stripe_plan.specs.Plans.{columns_of, span}
use Rattle.stripe_plan.proofs.read_answer.assemble.Given as goal

abbrev pub invariant-loop-stripe : goal.invariant-loop-stripe
invariant-loop-stripe l =
    l.answer ++ answered_between l.fn.map (columns_of l.fn.map l.fn.got) l.fn.out.components
    (clamped (span l.fn.off l.fn.len) (l.stripe * stripe_length l.fn.map)) (l.fn.off + l.fn.len)
    ≡ answered l.fn.map (span l.fn.off l.fn.len) (columns_of l.fn.map l.fn.got) l.fn.out.components
