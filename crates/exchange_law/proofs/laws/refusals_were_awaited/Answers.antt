use Rattle.exchange_law.proofs.Awaited.{refusals_were_awaited}
use Rattle.exchange_law.proofs.laws.refusals_were_awaited.Goals as goal

pub returns : goal.returns
returns c = refusals_were_awaited (record {
  further = c.one_event_more.ensures;
  counted = c.grants_are_counted.ensures;
  one = c.one_request.ensures;
  in_step = c.clients_are_in_step.ensures;
})
