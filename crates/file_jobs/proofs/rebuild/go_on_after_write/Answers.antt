use Rattle.file_jobs.proofs.Rebuilds.{fills_still}
use Rattle.file_jobs.proofs.rebuild.go_on_after_write.Goals as goal

pub after_fill_step-requires-clause-fill : goal.after_fill_step-requires-clause-fill
after_fill_step-requires-clause-fill c =
    fills_still c.args.kept.now c.args.rebuild c.stored.new.self c.in_ok-step.ensures.target c.in_ok-step.ensures.pieces
    c.requires.fill
