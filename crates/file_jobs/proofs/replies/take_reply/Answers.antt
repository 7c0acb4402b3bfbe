use Rattle.std.specs.Prelude.{slice_get}
use Rattle.std.proofs.Common.{ap, sym, ◌∙◌}
use Rattle.server_rules.specs.declared.jobs.Job.{Job}
use Rattle.std.proofs.lemmas.Result.{IfOk-weaker}
use Rattle.file_jobs.specs.Steps.{going}
use Rattle.file_jobs.proofs.HeardLaws.{heard_is, waits_on_still}
use Rattle.file_jobs.proofs.replies.take_reply.Goals as goal

pub returns-in-Older-clause-turn : goal.returns-in-Older-clause-turn
returns-in-Older-clause-turn c = IfOk-weaker c.send_in_format_2.result _ _ (λ turn h a e s j.
    h a e s ∙ heard_is
    (going c.args.kept.now c.args.effects.now s) c.args.job c.args.kept.now c.args.reply.now c.args.job.awaited c.args.place a
    c.get.result.now _
    (ap (λ (x : Job). slice_get x.awaited c.args.place) (sym c.job.view_is) ∙ c.get.ensures) e c.in-Older.ensures)
    c.send_in_format_2.ensures.turn

pub returns-in-Full-clause-turn : goal.returns-in-Full-clause-turn
returns-in-Full-clause-turn c = IfOk-weaker c.lose_full_drive.result _ _ (λ turn h a e s j.
    h a e s ∙ heard_is
    (going c.args.kept.now c.args.effects.now s) c.args.job c.args.kept.now c.args.reply.now c.args.job.awaited c.args.place a
    c.get.result.now _
    (ap (λ (x : Job). slice_get x.awaited c.args.place) (sym c.job.view_is) ∙ c.get.ensures) e c.in-Full.ensures)
    c.lose_full_drive.ensures.turn

pub returns-in-Done-clause-turn : goal.returns-in-Done-clause-turn
returns-in-Done-clause-turn c = IfOk-weaker c.take_answer.result _ _ (λ turn h a e s j.
    h a e s ∙ heard_is
    (going c.args.kept.now c.args.effects.now s) c.args.job c.args.kept.now c.args.reply.now c.args.job.awaited c.args.place a
    c.get.result.now _
    (ap (λ (x : Job). slice_get x.awaited c.args.place) (sym c.job.view_is) ∙ c.get.ensures) e c.in-Done.ensures)
    c.take_answer.ensures.turn

pub returns-in-Nothing-clause-turn : goal.returns-in-Nothing-clause-turn
returns-in-Nothing-clause-turn c = λ a e s j.
    waits_on_still c.args.kept.now c.args.effects.now s c.args.job j
    ∙ heard_is (going c.args.kept.now c.args.effects.now s) c.args.job c.args.kept.now c.args.reply.now c.args.job.awaited
    c.args.place a c.get.result.now _
    (ap (λ (x : Job). slice_get x.awaited c.args.place) (sym c.job.view_is) ∙ c.get.ensures) e c.in-Nothing.ensures
