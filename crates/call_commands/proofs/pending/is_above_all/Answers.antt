use Rattle.std.proofs.Common.{arith}
use Rattle.std.proofs.lemmas.Bool.Decides.{nat_tests}
use Rattle.call_commands.proofs.Pendings.{insert_last}
use Rattle.call_commands.proofs.pending.is_above_all.Goals as goal

pub returns-in-Some : goal.returns-in-Some
returns-in-Some c =
    λ a t. insert_last c.args.by_nonce.now.entries c.in-Some.last.now c.args.nonce a c.in-Some.ensures.all_up_to
    (grind (arith, nat_tests, t))
