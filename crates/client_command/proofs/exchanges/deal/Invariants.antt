use Rattle.std.proofs.Common.{ℕ}
use Rattle.cluster_text.specs.Peers.{KeepsAddresses}
use Rattle.client_command.specs.Exchanges.{WorksRounds, dealing}
use Rattle.client_command.proofs.exchanges.deal.Given as goal

abbrev pub invariant-rounds : goal.invariant-rounds
invariant-rounds g l =
    (rounds : ℕ)
    × WorksRounds rounds
    (dealing l.initial.core l.initial.waiting l.initial.notices (g.L.Links.told l.initial.links)
    (g.L.Links.faults l.initial.links))
    (dealing l.core l.waiting l.notices (g.L.Links.told l.links) (g.L.Links.faults l.links))
    × KeepsAddresses (g.L.Links.standing l.initial.links) (g.L.Links.standing l.links)
