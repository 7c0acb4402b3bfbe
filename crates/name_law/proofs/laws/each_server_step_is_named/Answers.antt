use Rattle.name_law.proofs.ServerSteps.{each_server_step_is_named}
use Rattle.name_law.proofs.laws.each_server_step_is_named.Goals as goal

pub returns : goal.returns
returns c = each_server_step_is_named
