use Rattle.std.specs.Prelude.{false}
use Rattle.std.proofs.Common.{ap, ◌+◌}
use Rattle.file_jobs.proofs.Missing.{lost_more, may_be_lost, was_lost}
use Rattle.file_jobs.proofs.components.lose.Goals as goal
use Rattle.file_jobs.proofs.components.lose.Goals.{then-at, else-at}

pub loop-at-preserved : goal.loop-at-preserved
loop-at-preserved c = record {
  all = lost_more c.args.lost c.loop-at.k c.loop-at.at-index c.loop-at.left c.push.new.self c.args.components.now
      (record { drive = 0; object = 0; missing = false }) c.if-at.missing c.loop-at-test.true
      (elim c.if-at.branch
      [ then-at w ↦ was_lost _ _ _ w.missing-is w.if-at.true | else-at w ↦ may_be_lost _ _ _ w.missing-is w.if-at.false ])
      c.in_ok-push.ensures.ok c.loop-at.invariant.all;
  place = ap (λ n. n + 1) c.loop-at.invariant.place;
}
