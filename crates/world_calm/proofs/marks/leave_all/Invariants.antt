use Rattle.std.proofs.Common.{◌-◌, length}
use Rattle.world_calm.specs.Marking.{left_as}
use Rattle.world_calm.proofs.Mapped.{Mapped}
use Rattle.world_calm.proofs.marks.leave_all.Given as goal

abbrev pub invariant-loop-place : goal.invariant-loop-place
invariant-loop-place g l = Mapped (left_as l.fn.stopped (g.S.KeptFiles.kept_of l.fn.server)) l.all l.fn.all l.place

abbrev pub decreases-loop-place : goal.decreases-loop-place
decreases-loop-place g l = length l.fn.all - l.place
