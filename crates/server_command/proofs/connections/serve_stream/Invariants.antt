use Rattle.std.proofs.Common.{[]}
use Rattle.cluster_text.specs.Peers.{KeepsAddresses}
use Rattle.osd_bytes.specs.Asking.{ends_of}
use Rattle.server_command.specs.GoesOn.{Does}
use Rattle.server_command.specs.Messages.{serving}
use Rattle.server_command.proofs.ConnectionLaws.{HasServed}
use Rattle.server_command.proofs.connections.serve_stream.Given as goal

abbrev pub invariant-loop-inbox : goal.invariant-loop-inbox
invariant-loop-inbox g l =
    Does g.H.MetadataServer l.initial.server l.server (λ had has. HasServed
    (serving (g.H.MetadataServer.server l.initial.server) [] l.initial.stands had
    (ends_of (g.L.Links.told l.initial.links) (g.L.Links.faults l.initial.links) (g.C.Clock.times l.initial.clock)))
    (serving (g.H.MetadataServer.server l.server) [] l.stands has
    (ends_of (g.L.Links.told l.links) (g.L.Links.faults l.links) (g.C.Clock.times l.clock)))
    l.inbox)
    × KeepsAddresses (g.L.Links.standing l.initial.links) (g.L.Links.standing l.links)

abbrev pub decreases-loop-inbox : goal.decreases-loop-inbox
decreases-loop-inbox g l = l.inbox.room
