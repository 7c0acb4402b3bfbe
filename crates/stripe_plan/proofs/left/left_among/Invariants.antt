use Rattle.std.proofs.Common.{◌≡◌, drop}
use Rattle.std.specs.Prelude.{flat_map}
use Rattle.stripe_plan.specs.Asks.{some_of, without}
use Rattle.stripe_plan.proofs.Picking.{chosen}
use Rattle.stripe_plan.proofs.left.left_among.Given as goal

abbrev pub invariant-loop-number : goal.invariant-loop-number
invariant-loop-number l =
    (flat_map (without (chosen l.fn.had (drop l.number-index l.fn.numbers)) l.fn.position) l.left ≡ without
    (chosen l.fn.had l.fn.numbers) l.fn.position l.fn.interval) × (flat_map some_of l.left ≡ l.left)
