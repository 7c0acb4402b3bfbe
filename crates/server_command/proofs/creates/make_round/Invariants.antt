use Rattle.std.proofs.Common.{true, take}
use Rattle.cluster_text.specs.Peers.{KeepsAddresses}
use Rattle.osd_bytes.specs.Asking.{ends_of}
use Rattle.server_command.specs.GoesOn.{Does}
use Rattle.server_command.specs.Messages.{InTurn, serving}
use Rattle.server_command.specs.Files.{Makes}
use Rattle.server_command.proofs.creates.make_round.Given as goal

abbrev pub invariant-loop-i : goal.invariant-loop-i
invariant-loop-i g l =
    Does g.H.MetadataServer l.initial.server l.server (λ had has. InTurn Makes (take l.i l.round)
    (serving (g.H.MetadataServer.server l.initial.server) l.initial.waiting true had
    (ends_of (g.L.Links.told l.initial.links) (g.L.Links.faults l.initial.links) (g.C.Clock.times l.initial.clock)))
    (serving (g.H.MetadataServer.server l.server) l.waiting true has
    (ends_of (g.L.Links.told l.links) (g.L.Links.faults l.links) (g.C.Clock.times l.clock))))
    × KeepsAddresses (g.L.Links.standing l.initial.links) (g.L.Links.standing l.links)
