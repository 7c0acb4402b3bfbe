use Rattle.std.proofs.Common.{◌≡◌, ◌≤◌, ◌-◌, length, take}
use Rattle.osd_bytes.specs.Inboxes.{WasPut}
use Rattle.osd_bytes.proofs.outbox.put_all.Given as goal

abbrev pub invariant-loop-at : goal.invariant-loop-at
invariant-loop-at g l =
    (l.at ≤ length l.bytes)
    × WasPut (g.L.Links.told l.initial.links) (g.L.Links.told l.links) (take l.at l.bytes)
    × (g.L.Links.standing l.links ≡ g.L.Links.standing l.initial.links)
    × (g.L.Links.faults l.links ≡ g.L.Links.faults l.initial.links)

abbrev pub decreases-loop-at : goal.decreases-loop-at
decreases-loop-at g l = length l.bytes - l.at
