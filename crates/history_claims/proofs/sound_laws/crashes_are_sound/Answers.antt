use Rattle.history_claims.proofs.sound_laws.crashes_are_sound.Goals as goal

pub returns : goal.returns
returns c h l = record {
  reopened = λ before after is. c.crashes_bar.ensures before;
  named = λ w. c.grants_are_named_once.ensures w h;
  objects = λ before after is. c.objects_are_own.ensures before;
}
