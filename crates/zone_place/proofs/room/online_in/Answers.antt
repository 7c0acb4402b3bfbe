use Rattle.std.proofs.Common.{◌∙◌, ◌&&◌, rules, tests}
use Rattle.std.specs.Prelude.{◌==◌}
use Rattle.std.proofs.lemmas.Iterator.{YieldsList-from_slice}
use Rattle.std.proofs.lemmas.Iterator.Consumers.{YieldsList-from_filter, count_from_yields_List}
use Rattle.zone_place.specs.declared.loads.ZoneLoad.{ZoneLoad}
use Rattle.zone_place.proofs.Placing.{online_within}
use Rattle.zone_place.proofs.room.online_in.Goals as goal

pub returns : goal.returns
returns c =
    count_from_yields_List c.filter.result _ c.count.ensures.ran
    (YieldsList-from_filter _ (λ (l : ZoneLoad). l.online && (l.zone == c.args.zone))
    (YieldsList-from_slice c.args.loads.now cc) c.filter.ensures.closure
    (λ x b q k. search (rules, tests)))
    ∙ online_within c.args.zone c.args.loads.now
