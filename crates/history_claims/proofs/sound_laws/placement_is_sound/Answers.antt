use Rattle.component_law.proofs.NamedLines.{are_named}
use Rattle.history_claims.proofs.Sound.{losses_at}
use Rattle.history_claims.proofs.sound_laws.placement_is_sound.Goals as goal

pub returns : goal.returns
returns c h l = record {
  apart = λ written. c.components_stand_apart.ensures h l (are_named h written);
  spread = λ written. c.components_stand_spread.ensures h l (are_named h written);
  created = λ w. c.files_are_created.ensures w h;
  losses = λ written. losses_at c.components_stand_apart.ensures c.losses_are_borne.ensures h l (are_named h written);
}
