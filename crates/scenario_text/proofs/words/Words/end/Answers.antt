use Rattle.std.specs.Prelude.{◌==◌}
use Rattle.scenario_text.proofs.Splitting.{line_is_extra}
use Rattle.scenario_text.proofs.words.Words.end.Goals as goal

pub returns-in-Some : goal.returns-in-Some
returns-in-Some c =
    rw (← c.self.view_is, c.in-Some.is) (line_is_extra (λ b. b == c.self.inside.separator) c.in-Some.field-0.now)
