use Rattle.std.proofs.Common.{◌≡◌, ◌++◌, drop}
use Rattle.stripe_plan.specs.Plans.{columns_of}
use Rattle.call_io.proofs.Taking.{AreLeft}
use Rattle.call_io.proofs.reading.fetched.Given as goal

abbrev pub invariant-loop-i : goal.invariant-loop-i
invariant-loop-i l = record {
  rest : AreLeft l.i l.left l.fn.got;
  parts : columns_of l.map l.parts ++ drop l.i l.fn.got ≡ l.fn.got;
}
