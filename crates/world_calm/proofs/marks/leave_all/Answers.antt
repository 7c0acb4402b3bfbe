use Rattle.std.proofs.Common.{sym, ap, ◌∙◌}
use Rattle.world_calm.specs.Marking.{left_as}
use Rattle.world_calm.proofs.Mapped.{mapped_next}
use Rattle.world_calm.proofs.marks.leave_all.Goals as goal

pub loop-place-preserved : goal.loop-place-preserved
loop-place-preserved g c =
    mapped_next (left_as c.args.stopped.now (g.S.KeptFiles.kept_of c.args.server.now)) c.loop-place.all c.args.all.now
    c.loop-place.place c.index-all-place.result c.leave_one.new.marked c.loop-place.invariant c.loop-place-test.true
    c.index-all-place.is
    (c.leave_one.ensures
    ∙ ap (left_as c.args.stopped.now (g.S.KeptFiles.kept_of c.args.server.now)) (sym c.index-all-place.is))
