use Rattle.std.proofs.Common.{◌≡◌, ◌++◌, drop}
use Rattle.stripe_plan.specs.Plans.{pieces_of}
use Rattle.stripe_plan.proofs.plans.pieces.Given as goal

abbrev pub invariant-loop-ask : goal.invariant-loop-ask
invariant-loop-ask l = l.pieces ++ pieces_of (drop l.ask-index l.fn.asks) ≡ pieces_of l.fn.asks
