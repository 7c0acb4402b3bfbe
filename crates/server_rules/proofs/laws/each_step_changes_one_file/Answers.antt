use Rattle.server_rules.proofs.StepLaws.{one_step}
use Rattle.server_rules.proofs.laws.each_step_changes_one_file.Goals as goal

pub returns : goal.returns
returns c = one_step
