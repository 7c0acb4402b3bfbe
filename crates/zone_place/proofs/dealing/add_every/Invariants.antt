use Rattle.std.proofs.Common.{◌≡◌, ◌-◌, ◌++◌, length, drop}
use Rattle.zone_place.specs.Zones.{every}
use Rattle.zone_place.proofs.dealing.add_every.Given as goal

abbrev pub invariant-loop-next : goal.invariant-loop-next
invariant-loop-next l = l.chosen ++ every l.groups 0 (drop l.next l.line) ≡ l.fn.chosen ++ every l.groups l.group l.line

abbrev pub decreases-loop-next : goal.decreases-loop-next
decreases-loop-next l = length l.line - l.next
