use Rattle.std.specs.Prelude.{Some}
use Rattle.std.proofs.Common.{sym, ap, ◌∙◌}
use Rattle.std.proofs.lemmas.Option.{slice_get-get_or}
use Rattle.server_rules.specs.Replies.{answers}
use Rattle.file_jobs.proofs.Finding.{found_at, passes}
use Rattle.file_jobs.proofs.awaited.answered_by.Goals as goal

pub returns-then-awaited-i-2-clause-found : goal.returns-then-awaited-i-2-clause-found
returns-then-awaited-i-2-clause-found c =
    let x = c.index-awaited-i.result in
    let i = c.loop-i.i in
    let cs = c.args.awaited.now in (
      c.loop-i-test.true,
      sym c.loop-i.invariant
          ∙ found_at (answers c.args.drive c.args.reply.now) cs i x c.loop-i-test.true c.index-awaited-i.is
          (passes c.args.drive c.args.reply.now cs i x _ c.loop-i-test.true c.index-awaited-i.is
          c.index-awaited-i-then-awaited-i.is c.if-awaited-i.true c.if-awaited-i-2.true)
          ∙ ap Some c.index-awaited-i.is
          ∙ sym (slice_get-get_or cs i x c.loop-i-test.true),
    )
