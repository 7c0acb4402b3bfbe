use Rattle.std.proofs.Common.{refl, sym}
use Rattle.std.proofs.lemmas.Bool.{false≢true}
use Rattle.scenario_text.proofs.Results.{end_ok}
use Rattle.scenario_text.proofs.Positions.{not_empty}
use Rattle.scenario_text.proofs.words.Words.is_done.Goals as goal

pub returns-in-Ok : goal.returns-in-Ok
returns-in-Ok c = (λ t. end_ok c.args.self.now c.in-Ok.field-0 (sym c.in-Ok.ensures), λ e. refl)

pub returns-in-Err : goal.returns-in-Err
returns-in-Err c =
    (λ t. absurd (false≢true t), λ e. absurd (not_empty c.args.self.now c.in-Err.field-0 (sym c.in-Err.ensures) e))
