use Rattle.std.proofs.Common.{◌≡◌, ◌++◌, drop}
use Rattle.world_calm.specs.Marking.{stripes_left}
use Rattle.world_calm.proofs.marks.stripes_left.Given as goal

abbrev pub invariant-loop-stripe : goal.invariant-loop-stripe
invariant-loop-stripe l =
    l.left ++ stripes_left l.fn.mended (drop l.stripe-index l.fn.stripes) ≡ stripes_left l.fn.mended l.fn.stripes
