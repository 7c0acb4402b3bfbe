use Rattle.std.proofs.Common.{◌≡◌, drop}
use Rattle.stripe_plan.specs.Lost.{among}
use Rattle.call_io.proofs.probing.is_among.Given as goal

abbrev pub invariant-loop-other : goal.invariant-loop-other
invariant-loop-other l = among l.number (drop l.other-index l.fn.numbers) ≡ among l.number l.fn.numbers
