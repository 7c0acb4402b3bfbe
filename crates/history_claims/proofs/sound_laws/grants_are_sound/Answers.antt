use Rattle.history_law.specs.Ranges.{AreRangesApart}
use Rattle.history_claims.proofs.Sound.{at_moments}
use Rattle.history_claims.proofs.sound_laws.grants_are_sound.Goals as goal

pub returns : goal.returns
returns c h l = record {
  safe = c.histories_are_safe.ensures h l;
  ranges = at_moments AreRangesApart c.fronts_are_lawful.ensures c.ranges_are_apart.ensures h l;
  live = λ w. c.answers_are_live.ensures w h;
  given = λ w. c.given_was_live.ensures w h;
  reached = λ w. c.reaches_have_causes.ensures w h;
}
