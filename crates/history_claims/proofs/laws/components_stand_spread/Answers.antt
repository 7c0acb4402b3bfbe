use Rattle.history_claims.proofs.Spreading.{components_stand_spread}
use Rattle.history_claims.proofs.laws.components_stand_spread.Goals as goal

pub returns : goal.returns
returns c =
    components_stand_spread c.one_zone_is_borne.ensures c.each_step_is_sound.ensures c.each_step_is_apart.ensures
    c.each_step_spreads.ensures c.each_step_zones.ensures
