use Rattle.std.proofs.Common.{sym, ◌∙◌}
use Rattle.std.proofs.lemmas.Result.{IfOk-weaker}
use Rattle.file_jobs.specs.Steps.{going}
use Rattle.file_jobs.proofs.Losses.{loses_fetching, loses_storing}
use Rattle.file_jobs.proofs.next_stage.lose_in_repair.Goals as goal

pub returns-in-Fetching-clause-turn : goal.returns-in-Fetching-clause-turn
returns-in-Fetching-clause-turn c = IfOk-weaker c.repair_next_piece.result _ _ (λ turn h a.
    h a ∙ loses_fetching (going c.args.kept.now c.args.effects.now a) c.args.kind c.args.repair c.args.awaited c.args.heard
    (sym c.stage.ensures ∙ c.in-Fetching.is))
    c.repair_next_piece.ensures.turn

pub returns-in-Storing-clause-turn : goal.returns-in-Storing-clause-turn
returns-in-Storing-clause-turn c = IfOk-weaker c.wait_or_go_on.result _ _ (λ turn h a.
    h a ∙ loses_storing
    (going c.args.kept.now c.args.effects.now a) c.args.kind c.args.repair c.drop_component.new.self c.args.awaited
    c.args.heard c.in-Storing.broken (sym c.stage.ensures ∙ c.in-Storing.is) c.drop_component.ensures)
    c.wait_or_go_on.ensures.turn
