use Rattle.std.proofs.Common.{◌≡◌, drop}
use Rattle.world_calm.specs.Marking.{any_harmed}
use Rattle.world_calm.proofs.marks.Marks.any_harmed.Given as goal

abbrev pub invariant-loop-marked : goal.invariant-loop-marked
invariant-loop-marked l =
    any_harmed l.fn.files (drop l.marked-index l.fn.self) ≡ any_harmed l.fn.files l.fn.self
