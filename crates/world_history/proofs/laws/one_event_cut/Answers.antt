use Rattle.world_history.proofs.Histories.{one_event_cut}
use Rattle.world_history.proofs.laws.one_event_cut.Goals as goal

pub returns : goal.returns
returns c = one_event_cut
