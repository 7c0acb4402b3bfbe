use Rattle.relation_law.proofs.TargetMoments.{each_fill_is_latest}
use Rattle.relation_law.proofs.repair_laws.each_fill_is_latest.Goals as goal

pub returns : goal.returns
returns c = each_fill_is_latest c.one_event_more.ensures
