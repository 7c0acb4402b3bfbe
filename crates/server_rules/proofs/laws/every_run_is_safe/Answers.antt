use Rattle.server_rules.proofs.StepLaws.{safe_run}
use Rattle.server_rules.proofs.laws.every_run_is_safe.Goals as goal

pub returns : goal.returns
returns c = safe_run
