use Rattle.component_law.proofs.SizeMoments.{sizes_agree}
use Rattle.component_law.proofs.party_laws.sizes_agree.Goals as goal

pub returns : goal.returns
returns c =
    sizes_agree c.slots_are_kept.ensures c.one_event_more.ensures c.grants_are_safe.ensures c.answers_are_own.ensures
    c.clients_agree.ensures
