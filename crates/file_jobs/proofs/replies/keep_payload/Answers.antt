use Rattle.std.specs.Prelude.{ℕ, List, [], ◌∷◌, ◌++◌, Some, ◌≡◌, slice_get, refl}
use Rattle.std.proofs.Common.{ap, ◌∙◌}
use Rattle.server_rules.specs.declared.jobs.Job.{Job}
use Rattle.server_rules.specs.Replies.{heard_with, others}
use Rattle.file_jobs.specs.Works.{work_of}
use Rattle.file_jobs.proofs.HeardLaws.{heard_job}
use Rattle.file_jobs.proofs.replies.keep_payload.Goals as goal

pub returns : goal.returns
returns c = λ a e.
    let j : Job =
    record {
      kind = c.job.inside.kind;
      work = work_of c.job.inside.work;
      awaited = c.job.inside.awaited;
      heard =
          c.job.inside.heard;
    } in
    let at : slice_get c.job.inside.awaited c.args.place ≡ Some a =
    ap (λ (x : Job). slice_get x.awaited c.args.place) c.job.view_is ∙ e in
    heard_job j _ a c.get.result.now c.get-2.result.now c.args.reply.now c.forget.new.awaited c.push.new.self refl
    (let x = c.get.ensures in cc (x, at)) (let y = c.get-2.ensures in cc (y, at)) c.forget.ensures
    (c.in_ok-push.ensures.ok
    ∙ ap (λ (bytes : List ℕ). j.heard ++ (record { component = c.get.result.now.component; payload = bytes } ∷ []))
    (c.in_ok-payload.ensures ∙ c.as_slice.ensures))
    ∙ ap (λ (x : Job). record x { awaited = others x.awaited a.command.nonce; heard = heard_with x a c.args.reply.now })
    c.job.view_is
