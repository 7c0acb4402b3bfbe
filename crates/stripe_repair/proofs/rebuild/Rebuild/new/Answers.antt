use Rattle.std.proofs.Common.{arith}
use Rattle.stripe_repair.proofs.RebuildLaws.{pieces_of_target}
use Rattle.stripe_repair.proofs.rebuild.Rebuild.new.Goals as goal

pub invariant_of-result : goal.invariant_of-result
invariant_of-result c = omega (arith, c.requires.component, c.known.ensures.few_components)

pub returns-clause-pieces : goal.returns-clause-pieces
returns-clause-pieces c =
    rw (c.new.ensures, c.group_with-group.ensures)
    (pieces_of_target c.args.map c.args.target c.args.high c.known.ensures c.requires.high)
