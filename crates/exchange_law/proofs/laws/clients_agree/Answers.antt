use Rattle.exchange_law.proofs.HeldWorlds.{all_agree}
use Rattle.exchange_law.proofs.laws.clients_agree.Goals as goal

pub returns : goal.returns
returns c =
    all_agree c.slots_are_kept.ensures c.one_event_more.ensures c.grants_are_safe.ensures c.answers_are_own.ensures
    c.files_have_shape.ensures
