use Rattle.std.proofs.Common.{arith}
use Rattle.server_requests.proofs.RecallLaws.{sent_more}
use Rattle.server_requests.proofs.messages.send_recalls.Goals as goal

pub loop-grant-preserved : goal.loop-grant-preserved
loop-grant-preserved c = record {
  all = sent_more c.args.grants.now c.loop-grant.grant-index c.loop-grant.count _ c.loop-grant.sends _ _ c.loop-grant-test.true
      c.in_ok-send_recall.ensures c.loop-grant.invariant.all;
  place = omega (arith, c.loop-grant.invariant.place);
}
