use Rattle.exchange_law.proofs.Reach.{plan_fits}
use Rattle.exchange_law.proofs.Probing.{probes_fit}
use Rattle.exchange_law.proofs.laws.plans_stay_inside.Goals as goal

pub returns : goal.returns
returns c = record { plans = plan_fits; probes = probes_fit }
