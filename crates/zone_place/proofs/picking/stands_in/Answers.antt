use Rattle.std.proofs.Common.{◌∙◌, ◌&&◌, rules, tests}
use Rattle.std.specs.Prelude.{◌==◌}
use Rattle.std.proofs.lemmas.Iterator.{YieldsList-from_slice}
use Rattle.std.proofs.lemmas.Iterator.Search.{any_from_yields_List}
use Rattle.zone_place.specs.declared.loads.ZoneLoad.{ZoneLoad}
use Rattle.zone_place.proofs.Placing.{stands_among}
use Rattle.zone_place.proofs.picking.stands_in.Goals as goal

pub returns : goal.returns
returns c =
    any_from_yields_List (λ (l : ZoneLoad). (l.drive == c.args.drive) && (l.zone == c.args.zone)) _ _ _ c.any.ensures.ran
    (YieldsList-from_slice c.args.loads.now cc) (λ x b q k. search (rules, tests))
    ∙ stands_among c.args.drive c.args.zone c.args.loads.now
