use Rattle.std.proofs.Common.{arith}
use Rattle.world_calm.specs.Marking.{mended_by}
use Rattle.world_calm.proofs.Mapped.{mapped_next}
use Rattle.world_calm.proofs.marks.mend_all.Goals as goal

pub loop-place-preserved : goal.loop-place-preserved
loop-place-preserved c =
    mapped_next (mended_by c.args.mended.now) c.loop-place.all.items c.args.all.now.items c.loop-place.place
    c.index_mut.result.now c.mend_one.new.marked c.loop-place.invariant
    (omega (arith, c.loop-place-test.true, c.len.ensures)) c.index_mut.ensures.value c.in_ok-mend_one.ensures
