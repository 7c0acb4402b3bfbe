use Rattle.std.proofs.Common.{◌≡◌, ◌-◌, ◌≤◌, ◌^◌, ◌++◌}
use Rattle.zone_place.specs.Choosing.{online_placed}
use Rattle.zone_place.proofs.Lines.{line_from}
use Rattle.zone_place.proofs.dealing.drives_in_line.Given as goal

abbrev pub invariant-loop-zone : goal.invariant-loop-zone
invariant-loop-zone l =
    (l.line ++ line_from l.ask l.lowest (online_placed l.loads) ≡ line_from l.ask 0 (online_placed l.loads)) × (l.lowest ≤ 2 ^ 32)

abbrev pub decreases-loop-zone : goal.decreases-loop-zone
decreases-loop-zone l = 2 ^ 32 - l.lowest
