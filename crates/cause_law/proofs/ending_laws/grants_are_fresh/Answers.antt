use Rattle.cause_law.proofs.Fresh.{grants_are_fresh}
use Rattle.cause_law.proofs.ending_laws.grants_are_fresh.Goals as goal

pub returns : goal.returns
returns c =
    grants_are_fresh c.one_event_more.ensures c.answers_are_own.ensures c.clients_agree.ensures
    c.each_object_is_owned.ensures c.grants_are_later.ensures
