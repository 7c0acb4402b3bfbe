use Rattle.client_rules.proofs.Waiting.{each_rest_awaits_something}
use Rattle.client_rules.proofs.laws.each_rest_awaits_something.Goals as goal

pub returns : goal.returns
returns c = each_rest_awaits_something
