use Rattle.headline_law.specs.Claim.{HasNoBadAudit, IsRightIfCalm, RepairedAt}
use Rattle.history_claims.proofs.Sound.{at_moments, at_lines}
use Rattle.history_claims.proofs.sound_laws.reads_are_sound.Goals as goal

pub returns : goal.returns
returns c h l = record {
  read = c.answers_are_of_replies.ensures h l;
  bytes = c.each_byte_has_its_cause.ensures h l;
  carried = c.replies_carry_bytes.ensures h;
  stored = c.writes_are_stored.ensures h l;
  right = at_moments IsRightIfCalm c.fronts_are_lawful.ensures c.headline_holds.ensures h l;
  audits = at_moments HasNoBadAudit c.fronts_are_lawful.ensures c.audits_find_none.ensures h l;
  mended = at_lines RepairedAt c.fronts_are_lawful.ensures c.repairs_leave_none.ensures h l;
  left_short = c.repairs_leave_counted_short.ensures h l;
  plain = c.ready_reads_are_plain.ensures h l;
}
