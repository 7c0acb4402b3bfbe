use Rattle.std.specs.Prelude.{Some, ◌≡◌, slice_get}
use Rattle.std.proofs.Common.{ap, ◌∙◌}
use Rattle.server_rules.specs.declared.jobs.Job.{Job}
use Rattle.server_rules.specs.Replies.{renews}
use Rattle.file_jobs.specs.Steps.{going}
use Rattle.file_jobs.specs.Works.{work_of}
use Rattle.file_jobs.proofs.HeardLaws.{renewed_job}
use Rattle.file_jobs.proofs.replies.send_in_format_2.Goals as goal

pub returns-clause-turn : goal.returns-clause-turn
returns-clause-turn c = λ a e s.
    let j : Job =
    record {
      kind = c.job.inside.kind;
      work = work_of c.job.inside.work;
      awaited = c.job.inside.awaited;
      heard =
          c.job.inside.heard;
    } in
    let at : slice_get c.job.inside.awaited c.args.place ≡ Some a =
    ap (λ (x : Job). slice_get x.awaited c.args.place) c.job.view_is ∙ e in
    renewed_job c.args.kept.now c.args.effects.now c.send_again.new.effects s j a c.send_again.new.awaited
    (c.in_ok-send_again.ensures.sent a at) (c.in_ok-send_again.ensures.left a at)
    ∙ ap (λ (x : Job). renews (going c.args.kept.now c.args.effects.now s) x a) c.job.view_is
