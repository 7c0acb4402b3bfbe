use Rattle.std.proofs.Common.{ap, sym, ◌∙◌}
use Rattle.std.proofs.lemmas.Result.{IfOk-weaker}
use Rattle.server_rules.specs.declared.jobs.Job.{Job}
use Rattle.file_jobs.specs.Losing.{target_in}
use Rattle.file_jobs.specs.Steps.{going}
use Rattle.file_jobs.proofs.FitsLaws.{target_fits}
use Rattle.file_jobs.proofs.Losses.{full_is}
use Rattle.file_jobs.proofs.replies.lose_full_drive.Goals as goal

pub end_component-requires-clause-target : goal.end_component-requires-clause-target
end_component-requires-clause-target c =
    target_fits c.args.kept.now _ c.args.job.work c.in-Some.target
    (ap (λ (x : Job). target_in x.work) (sym c.job.view_is) ∙ sym c.target_of.ensures ∙ c.in-Some.is) c.requires.job

pub returns-in-Some-clause-turn : goal.returns-in-Some-clause-turn
returns-in-Some-clause-turn c = IfOk-weaker c.end_component.result _ _ (λ turn h a e s.
    h s ∙ full_is (going c.args.kept.now c.args.effects.now s) c.args.job a c.args.job.work c.in-Some.target
    (ap (λ (x : Job). target_in x.work) (sym c.job.view_is) ∙ sym c.target_of.ensures ∙ c.in-Some.is))
    c.end_component.ensures.turn

pub lose_component-requires-clause-target : goal.lose_component-requires-clause-target
lose_component-requires-clause-target c =
    ap (λ (x : Job). target_in x.work) (sym c.job.view_is) ∙ sym c.target_of.ensures ∙ c.in-None.is
