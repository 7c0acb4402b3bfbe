use Rattle.component_law.proofs.Sealing.{keys_are_known}
use Rattle.component_law.proofs.party_laws.keys_are_known.Goals as goal

pub returns : goal.returns
returns c = keys_are_known c.one_event_more.ensures
