use Rattle.calm_law.proofs.Harming.{calm_alike}
use Rattle.calm_law.proofs.laws.calm_is_kept.Goals as goal

pub returns : goal.returns
returns c = calm_alike
