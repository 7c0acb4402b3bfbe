use Rattle.std.proofs.Common.{◌≡◌, ◌+◌, drop}
use Rattle.layout_server.specs.Zones.{place_in}
use Rattle.layout_server.proofs.zones.place_of.Given as goal

abbrev pub invariant-loop-i : goal.invariant-loop-i
invariant-loop-i l = place_in (drop l.i l.fn.drives) l.number + l.i ≡ place_in l.fn.drives l.number
