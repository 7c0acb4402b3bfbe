use Rattle.std.proofs.Common.{◌≡◌, drop}
use Rattle.world_calm.specs.Marking.{any_short}
use Rattle.world_calm.proofs.marks.any_short.Given as goal

abbrev pub invariant-loop-stripe : goal.invariant-loop-stripe
invariant-loop-stripe l =
    any_short l.fn.files l.fn.file (drop l.stripe-index l.fn.stripes) ≡ any_short l.fn.files l.fn.file l.fn.stripes
