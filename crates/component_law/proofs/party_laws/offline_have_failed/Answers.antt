use Rattle.component_law.proofs.OfflineMoves.{offline_have_failed}
use Rattle.component_law.proofs.party_laws.offline_have_failed.Goals as goal

pub returns : goal.returns
returns c = offline_have_failed c.one_event_more.ensures c.server_writes_to_others.ensures
