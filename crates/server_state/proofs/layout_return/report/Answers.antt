use Rattle.std.proofs.Common.{arith}
use Rattle.server_state.proofs.ServingLaws.{noted_more}
use Rattle.server_state.proofs.layout_return.report.Goals as goal

pub loop-preserved : goal.loop-preserved
loop-preserved c = record {
  all = noted_more c.args.numbers.now c.args.file.now.kept.components c.args.file.now.kept.number c.loop.index c.loop.component
      c.loop.effects _ _
      (rw c.as_slice-items.ensures at c.loop-test.true) c.in_ok-report_one.ensures c.loop.invariant.all;
  place = omega (arith, c.loop.invariant.place);
}
