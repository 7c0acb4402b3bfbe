use Rattle.std.specs.Prelude.{◌==◌, ◌+◌, not, length, refl}
use Rattle.std.proofs.Common.{◌∙◌}
use Rattle.std.proofs.lemmas.Result.{IfOk-weaker}
use Rattle.osd_lists.proofs.Slices.{some_at}
use Rattle.server_rules.specs.declared.jobs.Awaited.{Awaited}
use Rattle.file_jobs.specs.Steps.{going}
use Rattle.file_jobs.proofs.HeardLaws.{answered_job}
use Rattle.file_jobs.proofs.FitsLaws.{fits_same, heard_one, not_other}
use Rattle.file_jobs.proofs.replies.take_answer.Goals as goal

pub wait_or_go_on-requires-clause-job : goal.wait_or_go_on-requires-clause-job
wait_or_go_on-requires-clause-job c =
    let w = some_at c.args.job.awaited c.args.place c.requires.place in
    rw (c.in_ok-keep_payload.ensures w.0 w.1)
    (fits_same c.args.kept.now c.args.kept.now
    (length c.args.job.awaited + length c.args.job.heard) _ c.args.job.work refl refl refl
    (heard_one (λ (a : Awaited). not (a.command.nonce == w.0.command.nonce)) c.args.job.awaited c.args.place w.0 c.args.job.heard
    _ w.1 (not_other w.0.command.nonce))
    c.requires.job)

pub returns-clause-turn : goal.returns-clause-turn
returns-clause-turn c = IfOk-weaker c.wait_or_go_on.result _ _ (λ turn h a e s.
    h s ∙ answered_job (going c.args.kept.now c.args.effects.now s) c.args.job c.keep_payload.new.job a c.args.reply.now
    (c.in_ok-keep_payload.ensures a e))
    c.wait_or_go_on.ensures.turn
