use Rattle.world_history.proofs.Going.{steps_go_on, server_goes_on, moment_goes_on, lines_go_on}
use Rattle.world_history.proofs.laws.reading_goes_on.Goals as goal

pub returns-clause-steps : goal.returns-clause-steps
returns-clause-steps c = steps_go_on

pub returns-clause-server : goal.returns-clause-server
returns-clause-server c = server_goes_on

pub returns-clause-moment : goal.returns-clause-moment
returns-clause-moment c = moment_goes_on

pub returns-clause-lines : goal.returns-clause-lines
returns-clause-lines c = lines_go_on
