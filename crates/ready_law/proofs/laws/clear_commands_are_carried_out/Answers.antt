use Rattle.ready_law.proofs.Clear.{clear_commands_are_carried_out}
use Rattle.ready_law.proofs.laws.clear_commands_are_carried_out.Goals as goal

pub returns : goal.returns
returns c = clear_commands_are_carried_out
