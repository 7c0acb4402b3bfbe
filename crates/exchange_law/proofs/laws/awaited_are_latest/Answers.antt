use Rattle.exchange_law.proofs.LatestLaw.{awaited_are_latest}
use Rattle.exchange_law.proofs.laws.awaited_are_latest.Goals as goal

pub returns : goal.returns
returns c = awaited_are_latest c.one_event_more.ensures
