use Rattle.exchange_law.proofs.Later.{commands_differ}
use Rattle.exchange_law.proofs.laws.commands_differ.Goals as goal

pub returns : goal.returns
returns c = commands_differ (record {
  further = c.one_event_more.ensures;
  counted = c.grants_are_counted.ensures;
  one = c.one_request.ensures;
  in_step = c.clients_are_in_step.ensures;
})
