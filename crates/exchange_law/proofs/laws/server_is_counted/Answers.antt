use Rattle.exchange_law.proofs.CountWorlds.{server_is_counted}
use Rattle.exchange_law.proofs.laws.server_is_counted.Goals as goal

pub returns : goal.returns
returns c = server_is_counted c.grants_are_counted.ensures
