use Rattle.exchange_law.proofs.Later.{grants_are_later}
use Rattle.exchange_law.proofs.laws.grants_are_later.Goals as goal

pub returns : goal.returns
returns c = grants_are_later (record {
  further = c.one_event_more.ensures;
  counted = c.grants_are_counted.ensures;
  one = c.one_request.ensures;
  in_step = c.clients_are_in_step.ensures;
})
