use Rattle.std.proofs.Common.{arith}
use Rattle.world_watch.proofs.Sums.{read_counted}
use Rattle.world_watch.proofs.tally.count_read.Goals as goal

pub returns : goal.returns
returns c = λ s e.
    read_counted s c.args.summary.now c.args.bytes.now _ _ _ e (omega (arith, c.saturating_add-summary.ensures))
    (omega (arith, c.saturating_add-summary-2.ensures)) c.add_bytes-summary.ensures
