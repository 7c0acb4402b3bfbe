use Rattle.std.proofs.Common.{◌≡◌, drop}
use Rattle.std.specs.List.{filter}
use Rattle.zone_place.specs.Choosing.{takes, first_of, pick_of}
use Rattle.zone_place.proofs.Firsts.{first_from}
use Rattle.zone_place.proofs.picking.pick.Given as goal

abbrev pub invariant-loop-load : goal.invariant-loop-load
invariant-loop-load l =
    first_from l.found
    (first_of (filter (takes l.ask l.loads l.component l.holders) (drop l.load-index l.loads)))
    ≡ pick_of l.ask l.component l.holders l.loads
