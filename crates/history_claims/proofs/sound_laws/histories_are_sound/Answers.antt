use Rattle.history_claims.proofs.Texts.{events_make_text}
use Rattle.history_claims.proofs.Cutting.{cuts_go_on}
use Rattle.history_claims.proofs.sound_laws.histories_are_sound.Goals as goal

pub returns : goal.returns
returns c = record {
  sound = λ h l. record {
    grants = c.grants_are_sound.ensures h l;
    drives = c.drives_are_sound.ensures h l;
    fences = c.fences_are_sound.ensures h l;
    placement = c.placement_is_sound.ensures h l;
    causes = c.causes_are_sound.ensures h l;
    calls = c.calls_are_sound.ensures h l;
    reads = c.reads_are_sound.ensures h l;
    crashes = c.crashes_are_sound.ensures h l;
  };
  text = events_make_text;
  few = c.within_the_limit_are_few.ensures;
  cuts = cuts_go_on;
}
