use Rattle.osd_replay.proofs.ShownBytes.{carried_next}
use Rattle.osd_replay.proofs.shown.show_bytes.Goals as goal

pub loop-line-preserved : goal.loop-line-preserved
loop-line-preserved c =
    carried_next c.args.lines.now c.loop-line.line-index c.line-item.result c.loop-line-test.true c.line-item.is
    c.loop-line.invariant c.shows_bytes.ensures
