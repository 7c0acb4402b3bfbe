use Rattle.std.specs.Prelude.{None, ◌≡◌, ◌+◌, ◌==◌, not, length, refl}
use Rattle.std.proofs.Common.{arith, ap, sym, ◌∙◌}
use Rattle.std.proofs.lemmas.Result.{IfOk-weaker}
use Rattle.server_rules.specs.declared.jobs.Awaited.{Awaited}
use Rattle.server_rules.specs.declared.jobs.Job.{Job}
use Rattle.server_rules.specs.Jobs.{is_target, loses, others_than}
use Rattle.file_jobs.specs.Losing.{target_in}
use Rattle.file_jobs.specs.Steps.{going}
use Rattle.file_jobs.specs.Works.{work_of}
use Rattle.file_jobs.proofs.FitsLaws.{few_left, fits_again, fits_others}
use Rattle.file_jobs.proofs.Losses.{declared_is}
use Rattle.file_jobs.proofs.lost_drives.go_on_without_drive.Goals as goal

pub redirect_rebuild-requires-clause-target : goal.redirect_rebuild-requires-clause-target
redirect_rebuild-requires-clause-target c =
    ap (λ (x : Job). target_in x.work) (sym c.job.view_is) ∙ sym c.target_of.ensures ∙ c.in-Some.is

pub go_on_after_loss-requires-clause-target : goal.go_on_after_loss-requires-clause-target
go_on_after_loss-requires-clause-target c =
    ap (λ (x : Job). target_in x.work) (c.job-in-None.view_is ∙ sym c.job.view_is) ∙ sym c.target_of.ensures ∙ c.in-None.is

pub go_on_after_loss-requires-clause-job : goal.go_on_after_loss-requires-clause-job
go_on_after_loss-requires-clause-job c =
    let none : target_in (work_of c.job-in-None.inside.work) ≡ None =
    ap (λ (x : Job). target_in x.work) (c.job-in-None.view_is ∙ sym c.job.view_is) ∙ sym c.target_of.ensures ∙ c.in-None.is in
    fits_others c.args.kept.now _ (length c.job-in-None.inside.awaited + length c.job-in-None.inside.heard) _
    (work_of c.job-in-None.inside.work) none refl
    (rw c.forget.ensures (omega (arith, few_left (λ (a : Awaited). not (a.drive == c.args.drive)) c.job-in-None.inside.awaited)))
    (fits_again c.args.kept.now _ (work_of c.job-in-None.inside.work) none (rw (← c.job-in-None.view_is) at c.requires.job))

pub returns-in-None-clause-turn : goal.returns-in-None-clause-turn
returns-in-None-clause-turn c =
    let j : Job =
    record {
      kind = c.job-in-None.inside.kind;
      work = work_of c.job-in-None.inside.work;
      awaited =
          c.job-in-None.inside.awaited;
      heard = c.job-in-None.inside.heard;
    } in
    IfOk-weaker c.go_on_after_loss.result _ _ (λ turn h s e.
    h s ∙ declared_is (going c.args.kept.now c.args.effects.now s) j c.forget.new.awaited
    (others_than c.args.drive c.job-in-None.inside.awaited) c.args.drive
    (ap (λ (x : Job). target_in x.work) (c.job-in-None.view_is ∙ sym c.job.view_is) ∙ sym c.target_of.ensures
    ∙ c.in-None.is) c.forget.ensures
    ∙ ap (λ (x : Job). loses (going c.args.kept.now c.args.effects.now s) x x.work (others_than c.args.drive x.awaited)
    (is_target x.work c.args.drive)) c.job-in-None.view_is)
    c.go_on_after_loss.ensures.turn
