use Rattle.std.proofs.Common.{◌-◌, length}
use Rattle.world_calm.specs.Marking.{mended_by}
use Rattle.world_calm.proofs.Mapped.{Mapped}
use Rattle.world_calm.proofs.marks.mend_all.Given as goal

abbrev pub invariant-loop-place : goal.invariant-loop-place
invariant-loop-place l = Mapped (mended_by l.fn.mended) l.all.items l.fn.all.items l.place

abbrev pub decreases-loop-place : goal.decreases-loop-place
decreases-loop-place l = length l.fn.all.items - l.place
