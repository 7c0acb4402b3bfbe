use Rattle.exchange_law.proofs.Judging.{refusals_were_judged}
use Rattle.exchange_law.proofs.laws.refusals_were_judged.Goals as goal

pub returns : goal.returns
returns c = refusals_were_judged c.one_event_more.ensures
