-- What dealing gives.
use Rattle.std.specs.Prelude.{◌≡◌, true, List}
use Rattle.zone_place.specs.declared.asks.ZoneAsk.{ZoneAsk}
use Rattle.zone_place.specs.Zones.{InZone, AreDifferent, has_room, spreads, dealt}

-- where different drives have room, those that are dealt are spread
abbrev pub DealtSpreads : Type 0
DealtSpreads =
    (ask : ZoneAsk) (ds : List InZone) → AreDifferent ds → has_room ask ds ≡ true → spreads ask ds (dealt ask ds) ≡ true
