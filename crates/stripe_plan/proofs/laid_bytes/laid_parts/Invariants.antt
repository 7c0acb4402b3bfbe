use Rattle.std.proofs.Common.{drop}
use Rattle.stripe_plan.specs.Plans.{columns_of}
use Rattle.stripe_plan.proofs.Laid.{Filled}
use Rattle.stripe_plan.proofs.Picking.{picked}
use Rattle.stripe_plan.proofs.laid_bytes.laid_parts.Given as goal

abbrev pub invariant-loop-i : goal.invariant-loop-i
invariant-loop-i l =
    Filled (picked (columns_of l.fn.map l.fn.parts) (drop l.i l.fn.numbers)) l.fn.position l.fn.offset l.fn.len l.bytes
