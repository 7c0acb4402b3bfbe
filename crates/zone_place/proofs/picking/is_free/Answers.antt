use Rattle.std.proofs.Common.{ap, rules, tests}
use Rattle.std.specs.Prelude.{◌==◌, not}
use Rattle.std.proofs.lemmas.Iterator.{YieldsList-from_slice}
use Rattle.std.proofs.lemmas.Iterator.Search.{any_from_yields_List}
use Rattle.zone_place.specs.declared.loads.Holder.{Holder}
use Rattle.zone_place.proofs.picking.is_free.Goals as goal

pub returns : goal.returns
returns c = ap not
    (any_from_yields_List (λ (h : Holder). h.drive == c.args.drive) _ _ _ c.any.ensures.ran
    (YieldsList-from_slice c.args.holders.now cc) (λ x b q k. search (rules, tests)))
