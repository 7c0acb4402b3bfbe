use Rattle.component_law.proofs.ListedMoments.{components_agree}
use Rattle.component_law.proofs.party_laws.components_agree.Goals as goal

pub returns : goal.returns
returns c =
    components_agree c.slots_are_kept.ensures c.one_event_more.ensures c.parties_run.ensures c.grants_are_safe.ensures
    c.answers_are_own.ensures c.clients_agree.ensures
