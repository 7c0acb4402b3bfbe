use Rattle.std.specs.Prelude.{Option, Some, ◌≡◌, refl}
use Rattle.std.proofs.Common.{arith, ap, sym, ◌∙◌}
use Rattle.std.proofs.lemmas.Result.{IfOk-weaker}
use Rattle.server_rules.specs.declared.jobs.Job.{Job}
use Rattle.server_rules.specs.Jobs.{others_than}
use Rattle.file_jobs.specs.Works.{work_of}
use Rattle.file_jobs.specs.Steps.{going}
use Rattle.file_jobs.proofs.FitsLaws.{can_fill_after, target_after, waits_after}
use Rattle.file_jobs.proofs.Losses.{gone_is, redirected, remade}
use Rattle.file_jobs.proofs.lost_drives.redirect_rebuild.Goals as goal

pub returns-then-target-drive-clause-turn : goal.returns-then-target-drive-clause-turn
returns-then-target-drive-clause-turn c = IfOk-weaker c.end_component.result _ _ (λ turn h s e.
    h s ∙ gone_is (going c.args.kept.now c.args.effects.now s) c.args.job c.args.job.work
    (others_than c.args.drive c.args.job.awaited) c.args.target c.args.drive c.requires.target
    (grind (arith, c.if-target-drive.true)))
    c.end_component.ensures.turn

pub returns-in-Rebuilds-clause-turn : goal.returns-in-Rebuilds-clause-turn
returns-in-Rebuilds-clause-turn c = IfOk-weaker c.fill_next_piece.result _ _ (λ turn h s e.
    h s ∙ redirected (going c.args.kept.now c.args.effects.now s) c.args.job c.in-Rebuilds.rebuild c.args.target
    (others_than c.args.drive c.args.job.awaited) c.args.drive
    (ap (λ (x : Job). x.work) (sym c.job.view_is) ∙ ap work_of c.in-Rebuilds.is) c.requires.target
    (grind (arith, c.if-target-drive.false)))
    c.fill_next_piece.ensures.turn

pub end_component-requires-clause-target : goal.end_component-requires-clause-target
end_component-requires-clause-target c =
    target_after c.args.kept.now _ c.args.job.work c.args.target c.requires.target c.requires.job

pub fill_next_piece-requires-clause-fill : goal.fill_next_piece-requires-clause-fill
fill_next_piece-requires-clause-fill c =
    can_fill_after c.args.kept.now _ c.args.job.work c.in-Rebuilds.rebuild
    (ap (λ (x : Job). x.work) (sym c.job.view_is) ∙ ap work_of c.in-Rebuilds.is) c.requires.job

pub returns-in_default : goal.returns-in_default
returns-in_default c =
    let work : c.args.job.work ≡ work_of c.job.inside.work = ap (λ (x : Job). x.work) (sym c.job.view_is) in record {
      turn = λ a e.
          ap (λ (o : Option Job). going c.args.kept.now c.args.effects.now (record a { job = o }))
          (ap (λ (j : Job). Some j) c.job.view_is ∙ sym e)
          ∙ remade (going c.args.kept.now c.args.effects.now a) c.args.job c.job.inside.work c.args.target
          (others_than c.args.drive c.args.job.awaited) c.args.drive work c.requires.target
          c.in_default.not-Rebuilds (grind (arith, c.if-target-drive.false));
      sound = waits_after c.args.kept.now _ c.job.inside.work c.in_default.not-Rebuilds (rw (← c.job.view_is) at c.requires.job);
      keeps = record { number = refl; sound = λ s. s; grants = λ e. e };
    }
