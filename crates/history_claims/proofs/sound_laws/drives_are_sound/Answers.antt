use Rattle.history_claims.specs.Lanes.{HaveFairLanes, HaveOwnLanes}
use Rattle.history_claims.proofs.Sound.{at_moments}
use Rattle.history_claims.proofs.sound_laws.drives_are_sound.Goals as goal

pub returns : goal.returns
returns c h l = record {
  answered = λ w. c.verdicts_are_answered.ensures w h;
  issued = c.commands_are_issued.ensures h l;
  exact = c.commands_are_issued_exactly.ensures h l;
  allowed = c.unforged_are_issued_exactly.ensures h l;
  listed = c.unforged_are_issued.ensures h l;
  fair = c.unguessed_are_unforged.ensures h l;
  holders = c.holders_are_own.ensures h l;
  lanes = at_moments HaveFairLanes c.fronts_are_lawful.ensures c.lanes_are_fair.ensures h l;
  own = at_moments HaveOwnLanes c.fronts_are_lawful.ensures c.lanes_are_own.ensures h l;
}
