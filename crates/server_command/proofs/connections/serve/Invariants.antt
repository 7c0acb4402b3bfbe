use Rattle.std.proofs.Common.{◌≤◌, ◌-◌}
use Rattle.cluster_text.specs.Peers.{KeepsAddresses}
use Rattle.osd_bytes.specs.Asking.{ends_of}
use Rattle.server_command.specs.GoesOn.{Does}
use Rattle.server_command.specs.Connections.{ServesAll}
use Rattle.server_command.proofs.connections.serve.Given as goal

abbrev pub invariant-loop-served : goal.invariant-loop-served
invariant-loop-served g l =
    Does g.H.MetadataServer l.initial.server l.server (λ had has.
    ServesAll l.served (g.H.MetadataServer.server l.initial.server) (g.H.MetadataServer.server l.server) had has
    (ends_of (g.L.Links.told l.initial.links) (g.L.Links.faults l.initial.links) (g.C.Clock.times l.initial.clock))
    (ends_of (g.L.Links.told l.links) (g.L.Links.faults l.links) (g.C.Clock.times l.clock)))
    × (l.served ≤ l.connections)
    × KeepsAddresses (g.L.Links.standing l.initial.links) (g.L.Links.standing l.links)

abbrev pub decreases-loop-served : goal.decreases-loop-served
decreases-loop-served g l = l.connections - l.served
