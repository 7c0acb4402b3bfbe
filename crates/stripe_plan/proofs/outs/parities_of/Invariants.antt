use Rattle.std.proofs.Common.{◌≤◌, take, length}
use Rattle.std.specs.List.{All}
use Rattle.data_map.specs.Striping.{parities}
use Rattle.stripe_plan.specs.Words.{parity_at}
use Rattle.stripe_plan.specs.Encoded.{AreParities}
use Rattle.stripe_plan.specs.Plans.{columns_of}
use Rattle.stripe_plan.proofs.outs.parities_of.Given as goal

abbrev pub invariant-loop-columns : goal.invariant-loop-columns
invariant-loop-columns l =
    AreParities (parities l.fn.write.map.now) (take l.columns-index l.fn.intervals)
    (parity_at l.fn.write.map.now l.fn.write.range l.fn.write.bytes.now
    (columns_of l.fn.write.map.now l.fn.write.got.now) l.fn.write.out.now.components l.fn.stripe) l.all
    × All (λ rows. parities l.fn.write.map.now ≤ length rows) l.all
