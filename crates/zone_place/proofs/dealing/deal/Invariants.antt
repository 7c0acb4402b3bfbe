use Rattle.std.proofs.Common.{◌≡◌}
use Rattle.std.specs.List.{flat_map}
use Rattle.zone_place.specs.Zones.{every, counted, in_line}
use Rattle.zone_place.specs.Choosing.{online_placed}
use Rattle.zone_place.proofs.dealing.deal.Given as goal

abbrev pub invariant-loop-group : goal.invariant-loop-group
invariant-loop-group l =
    l.chosen ≡ flat_map (λ j. every l.ask.groups j (in_line l.ask (online_placed l.loads))) (counted 0 l.group)
