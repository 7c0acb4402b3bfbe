use Rattle.std.proofs.Common.{◌≡◌, ◌++◌, drop}
use Rattle.std.specs.Prelude.{◌==◌, filter, not}
use Rattle.server_rules.specs.declared.grants.Grant.{Grant}
use Rattle.entry_replay.proofs.grants.without.Given as goal

abbrev pub invariant-loop-grant : goal.invariant-loop-grant
invariant-loop-grant l =
    l.left ++ filter (λ (g : Grant). not (g.number == l.number)) (drop l.grant-index l.fn.grants)
    ≡ filter (λ (g : Grant). not (g.number == l.number)) l.fn.grants
