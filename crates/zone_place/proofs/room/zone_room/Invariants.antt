use Rattle.std.proofs.Common.{◌≡◌, ◌+◌, ◌≤◌, length}
use Rattle.zone_place.specs.Zones.{room}
use Rattle.zone_place.specs.Choosing.{online_placed}
use Rattle.zone_place.proofs.room.zone_room.Given as goal

abbrev pub invariant-loop-load : goal.invariant-loop-load
invariant-loop-load l =
    (l.room + room l.ask (online_placed l.rest) ≡ room l.ask (online_placed l.loads)) × (l.room + length l.rest ≤ length l.loads)

abbrev pub decreases-loop-load : goal.decreases-loop-load
decreases-loop-load l = length l.rest
