use Rattle.std.proofs.Common.{◌≡◌, take}
use Rattle.std.specs.Prelude.{map}
use Rattle.cluster_text.specs.Peers.{KeepsAddresses}
use Rattle.osd_bytes.specs.Connections.{after_notes}
use Rattle.scenario_text.specs.LineSpelling.{line_text}
use Rattle.server_command.proofs.notes.tell_lines.Given as goal

abbrev pub invariant-loop-line : goal.invariant-loop-line
invariant-loop-line g l =
    (g.L.Links.told l.links ≡ after_notes (map line_text (take l.line-index l.lines)) (g.L.Links.told l.initial.links))
    × (g.L.Links.faults l.links ≡ g.L.Links.faults l.initial.links)
    × KeepsAddresses (g.L.Links.standing l.initial.links) (g.L.Links.standing l.links)
