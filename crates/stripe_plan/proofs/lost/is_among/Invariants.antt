use Rattle.std.proofs.Common.{◌≡◌, drop}
use Rattle.stripe_plan.specs.Lost.{among}
use Rattle.stripe_plan.proofs.lost.is_among.Given as goal

abbrev pub invariant-loop-other : goal.invariant-loop-other
invariant-loop-other l = among l.component (drop l.other-index l.fn.out.components) ≡ among l.component l.fn.out.components
