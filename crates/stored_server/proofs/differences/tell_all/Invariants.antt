use Rattle.std.proofs.Common.{◌≡◌, take}
use Rattle.std.specs.Prelude.{map}
use Rattle.cluster_text.specs.Peers.{KeepsAddresses}
use Rattle.osd_bytes.specs.Connections.{after_notes}
use Rattle.stored_server.specs.Differences.{difference_line}
use Rattle.stored_server.proofs.differences.tell_all.Given as goal

abbrev pub invariant-loop-i : goal.invariant-loop-i
invariant-loop-i g l =
    (g.L.Links.told l.links
    ≡ after_notes (map difference_line (take l.i l.differences)) (g.L.Links.told l.initial.links))
    × (g.L.Links.faults l.links ≡ g.L.Links.faults l.initial.links)
    × KeepsAddresses (g.L.Links.standing l.initial.links) (g.L.Links.standing l.links)
