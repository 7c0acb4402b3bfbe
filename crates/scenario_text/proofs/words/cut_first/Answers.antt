use Rattle.std.proofs.Common.{sym}
use Rattle.std.specs.Prelude.{◌==◌}
use Rattle.scenario_text.proofs.Splitting.{split_at_first, split_nowhere}
use Rattle.scenario_text.proofs.words.cut_first.Goals as goal

pub returns-in-Some : goal.returns-in-Some
returns-in-Some c = split_at_first (λ b. b == c.args.separator) c.args.line.now c.in-Some.end (sym c.in-Some.ensures)

pub returns-in-None : goal.returns-in-None
returns-in-None c = split_nowhere (λ b. b == c.args.separator) c.args.line.now (sym c.in-None.ensures)
