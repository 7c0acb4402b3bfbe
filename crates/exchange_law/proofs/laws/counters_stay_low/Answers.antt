use Rattle.exchange_law.proofs.CountWorlds.{counters_stay_low}
use Rattle.exchange_law.proofs.laws.counters_stay_low.Goals as goal

pub returns : goal.returns
returns c = counters_stay_low c.server_is_counted.ensures
