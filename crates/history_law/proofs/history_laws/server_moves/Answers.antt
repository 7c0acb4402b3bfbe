use Rattle.history_law.proofs.Doing.{server_moves}
use Rattle.history_law.proofs.history_laws.server_moves.Goals as goal

pub returns : goal.returns
returns c = server_moves
