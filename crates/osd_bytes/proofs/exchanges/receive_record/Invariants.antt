use Rattle.std.proofs.Common.{◌≡◌, ◌≤◌, ◌+◌, ◌-◌, ℕ, List, [], length}
use Rattle.osd_bytes.specs.Exchanges.{WasReceived}
use Rattle.osd_bytes.specs.Records.{HasRead, came, most_coming}
use Rattle.osd_bytes.proofs.exchanges.receive_record.Given as goal

abbrev pub invariant-loop-records : goal.invariant-loop-records
invariant-loop-records g l =
    ((got : List ℕ) × WasReceived (g.L.Links.told l.initial.links) (g.L.Links.told l.links) got × HasRead got [] l.records)
    × (length l.piece ≡ 4096)
    × (came l.records ≤ most_coming)
    × (g.L.Links.standing l.links ≡ g.L.Links.standing l.initial.links)
    × (g.L.Links.faults l.links ≡ g.L.Links.faults l.initial.links)

abbrev pub decreases-loop-records : goal.decreases-loop-records
decreases-loop-records g l = most_coming + 1 - came l.records
