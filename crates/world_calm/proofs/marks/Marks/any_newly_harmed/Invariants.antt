use Rattle.std.proofs.Common.{◌≡◌, drop}
use Rattle.world_calm.specs.Marking.{any_newly_harmed}
use Rattle.world_calm.proofs.marks.Marks.any_newly_harmed.Given as goal

abbrev pub invariant-loop-marked : goal.invariant-loop-marked
invariant-loop-marked g l =
    any_newly_harmed l.fn.stopped (g.S.KeptFiles.kept_of l.fn.server) l.fn.files (drop l.marked-index l.fn.self)
    ≡ any_newly_harmed l.fn.stopped (g.S.KeptFiles.kept_of l.fn.server) l.fn.files l.fn.self
