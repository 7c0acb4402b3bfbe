use Rattle.std.proofs.Common.{arith}
use Rattle.stripe_repair.proofs.LengthLaws.{are_lengths}
use Rattle.stripe_repair.proofs.PieceLaws.{along_are}
use Rattle.stripe_repair.proofs.audit.Audit.new.Goals as goal

pub invariant_of-result : goal.invariant_of-result
invariant_of-result c = (
  rw (c.below.ensures, c.raw.ensures.value)
      (along_are c.args.map.now.unit 0 c.args.high c.known.ensures.short_unit (λ some. omega (arith, c.requires.high))),
  rw c.in_ok-lengths_of.ensures (are_lengths c.args.heard.now c.requires.few),
)
