use Rattle.scenario_text.proofs.Splitting.{found_first}
use Rattle.scenario_text.proofs.words.first_place.Goals as goal

pub returns : goal.returns
returns c = found_first c.args.separator c.args.line.now c.memchr.result c.memchr.ensures
