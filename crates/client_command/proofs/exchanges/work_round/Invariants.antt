use Rattle.std.proofs.Common.{take}
use Rattle.cluster_text.specs.Peers.{KeepsAddresses}
use Rattle.client_command.specs.Exchanges.{InTurn, Works, dealing}
use Rattle.client_command.proofs.exchanges.work_round.Given as goal

abbrev pub invariant-loop-i : goal.invariant-loop-i
invariant-loop-i g l =
    InTurn Works (take l.i l.round)
    (dealing l.initial.core l.initial.waiting l.initial.notices (g.L.Links.told l.initial.links)
    (g.L.Links.faults l.initial.links))
    (dealing l.core l.waiting l.notices (g.L.Links.told l.links) (g.L.Links.faults l.links))
    × KeepsAddresses (g.L.Links.standing l.initial.links) (g.L.Links.standing l.links)
