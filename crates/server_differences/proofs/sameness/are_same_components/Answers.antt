use Rattle.std.proofs.Common.{arith, rules}
use Rattle.std.proofs.lemmas.Grind.{common_steps}
use Rattle.server_differences.proofs.SameLaws.{same_lists}
use Rattle.server_differences.proofs.sameness.are_same_components.Goals as goal

pub returns : goal.returns
returns c =
    same_lists c.args.a.now c.args.b.now c.eq.result c.eq.ensures (λ x y. first_of (search rules, grind (arith, common_steps)))
