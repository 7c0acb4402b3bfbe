use Rattle.std.proofs.Common.{◌≡◌, drop}
use Rattle.zone_place.specs.Dealing.{zone_from}
use Rattle.zone_place.specs.Choosing.{online_placed}
use Rattle.zone_place.proofs.Lines.{lowest_of}
use Rattle.zone_place.proofs.dealing.next_zone.Given as goal

abbrev pub invariant-loop-load : goal.invariant-loop-load
invariant-loop-load l =
    lowest_of l.found (zone_from l.lowest (online_placed (drop l.load-index l.loads))) ≡ zone_from l.lowest
    (online_placed l.loads)
