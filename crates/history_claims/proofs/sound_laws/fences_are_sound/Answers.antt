use Rattle.history_claims.proofs.sound_laws.fences_are_sound.Goals as goal

pub returns : goal.returns
returns c h l = record {
  fenced = λ w. c.unforged_are_fenced.ensures w h;
  older = λ w. c.grants_are_older.ensures w h;
  barred = λ w. c.given_is_barred.ensures w h;
  tags = λ before after is. c.each_tag_is_its_files.ensures before;
  formats = λ w. c.formats_have_causes.ensures w h;
}
