use Rattle.std.proofs.Common.{rules, drop}
use Rattle.std.proofs.Math.Seq.{take-add}
use Rattle.osd_bytes.proofs.ExchangeLaws.{sent-then}
use Rattle.osd_bytes.proofs.exchanges.send_all.Goals as goal

pub loop-at-preserved : goal.loop-at-preserved
loop-at-preserved g c = (
  search rules,
  rw take-add (sent-then _ (g.L.Links.told c.loop-at.links) _ _
      (drop c.loop-at.at c.args.bytes.now) c.in_ok-at.field-0 c.loop-at.invariant.1 (search rules)),
  search rules,
  search rules,
)
