use Rattle.std.proofs.Common.{sym, ◌∙◌}
use Rattle.held_grants.proofs.DueLists.{first_at}
use Rattle.held_grants.proofs.dues.first_held.Goals as goal

pub returns-then-holds-clause-some : goal.returns-then-holds-clause-some
returns-then-holds-clause-some c =
    first_at _ _ c.loop-i.i _ c.loop-i-test.true (sym c.holds.ensures ∙ c.if-holds.true) c.loop-i.invariant
