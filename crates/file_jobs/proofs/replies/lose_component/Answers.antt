use Rattle.std.specs.Prelude.{Some, ◌≡◌, ◌+◌, ◌==◌, not, length, refl, slice_get}
use Rattle.std.proofs.Common.{arith, ap, ◌∙◌}
use Rattle.std.proofs.lemmas.Result.{IfOk-weaker}
use Rattle.server_rules.specs.declared.jobs.Awaited.{Awaited}
use Rattle.server_rules.specs.declared.jobs.Job.{Job}
use Rattle.server_rules.specs.Replies.{fills_up}
use Rattle.file_jobs.specs.Steps.{going}
use Rattle.file_jobs.specs.Works.{work_of}
use Rattle.file_jobs.specs.Losing.{target_in}
use Rattle.file_jobs.proofs.FitsLaws.{few_left, fits_others}
use Rattle.file_jobs.proofs.Losses.{fills_is, sound_lost}
use Rattle.file_jobs.proofs.replies.lose_component.Goals as goal

pub go_on_after_loss-requires-clause-target : goal.go_on_after_loss-requires-clause-target
go_on_after_loss-requires-clause-target c = ap (λ (x : Job). target_in x.work) c.job.view_is ∙ c.requires.target

pub go_on_after_loss-requires-clause-job : goal.go_on_after_loss-requires-clause-job
go_on_after_loss-requires-clause-job c =
    fits_others c.args.kept.now _ (length c.job.inside.awaited + length c.job.inside.heard) _ (work_of c.job.inside.work)
    (ap (λ (x : Job). target_in x.work) c.job.view_is ∙ c.requires.target) refl
    (rw c.forget.ensures
    (omega (
      arith,
      few_left (λ (a : Awaited). not (a.command.nonce == c.get-2.result.now.command.nonce)) c.job.inside.awaited,
    )))
    (rw (← c.job.view_is) at c.requires.job)

pub go_on_after_loss-requires-clause-sound : goal.go_on_after_loss-requires-clause-sound
go_on_after_loss-requires-clause-sound c =
    sound_lost c.args.kept.now c.in_ok-kept.field-0 _ (rw c.as_slice.ensures at c.in_ok-kept.ensures) c.requires.sound

pub returns-clause-turn : goal.returns-clause-turn
returns-clause-turn c =
    let j : Job =
    record {
      kind = c.job.inside.kind;
      work = work_of c.job.inside.work;
      awaited = c.job.inside.awaited;
      heard =
          c.job.inside.heard;
    } in
    IfOk-weaker c.go_on_after_loss.result _ _ (λ turn h a e s.
    let at : slice_get c.job.inside.awaited c.args.place ≡ Some a =
    ap (λ (x : Job). slice_get x.awaited c.args.place) c.job.view_is ∙ e in
    h s ∙ fills_is c.args.kept.now c.args.effects.now _ s j a c.get.result.now c.get-2.result.now c.in_ok-kept.field-0
    c.forget.new.awaited (ap (λ (x : Job). target_in x.work) c.job.view_is ∙ c.requires.target)
    (let x = c.get.ensures in cc (x, at)) (let y = c.get-2.ensures in
    cc (y, at)) (rw c.as_slice.ensures at c.in_ok-kept.ensures) c.forget.ensures c.in_ok-note.ensures
    ∙ ap (λ (x : Job). fills_up (going c.args.kept.now c.args.effects.now s) x a x.work) c.job.view_is)
    c.go_on_after_loss.ensures.turn

pub returns-clause-keeps : goal.returns-clause-keeps
returns-clause-keeps c =
    IfOk-weaker c.go_on_after_loss.result _ _
    (λ x l. record {
      number = l.number;
      grants = λ e. l.grants e;
      sound =
          λ s. l.sound (sound_lost c.args.kept.now c.in_ok-kept.field-0 _ (rw c.as_slice.ensures at c.in_ok-kept.ensures) s);
    })
    c.go_on_after_loss.ensures.keeps
