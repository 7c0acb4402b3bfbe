use Rattle.world_watch.proofs.Keeping.{keeps_first, keeps_on}
use Rattle.world_watch.proofs.guess_laws.guesses_are_read.Goals as goal

pub returns-clause-first : goal.returns-clause-first
returns-clause-first c = keeps_first

pub returns-clause-on : goal.returns-clause-on
returns-clause-on c = keeps_on
