use Rattle.std.proofs.Common.{◌≤◌, length}
use Rattle.std.proofs.lemmas.List.Elements.{All-push}
use Rattle.data_map.specs.Striping.{parities}
use Rattle.stripe_plan.specs.Words.{parity_at}
use Rattle.stripe_plan.specs.Plans.{columns_of}
use Rattle.stripe_plan.proofs.Parities.{parities_more}
use Rattle.stripe_plan.proofs.outs.parities_of.Goals as goal

pub loop-columns-preserved : goal.loop-columns-preserved
loop-columns-preserved c =
    let m = c.args.write.now.map.now in
    rw c.in_ok-push.ensures.ok (
      parities_more (parities m) c.args.intervals.now
          (parity_at m c.args.write.now.range c.args.write.now.bytes.now
          (columns_of m c.args.write.now.got.now) c.args.write.now.out.now.components c.args.stripe) c.loop-columns.columns-index
          c.loop-columns.all c.in_ok-rows.rows
          (record { first = 0; end = 0 }) c.loop-columns-test.true c.loop-columns.invariant.0 c.in_ok-rows.ensures,
      All-push (λ rows. parities m ≤ length rows) c.loop-columns.all c.in_ok-rows.rows c.loop-columns.invariant.1
          c.in_ok-rows.ensures.enough,
    )
