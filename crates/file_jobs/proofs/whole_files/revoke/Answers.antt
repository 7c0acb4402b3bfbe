use Rattle.std.proofs.Common.{sym, ◌∙◌}
use Rattle.file_jobs.specs.Steps.{Around}
use Rattle.file_jobs.proofs.Mends.{alone_with}
use Rattle.file_jobs.proofs.whole_files.revoke.Goals as goal

pub returns-clause-steps : goal.returns-clause-steps
returns-clause-steps c = λ ds chosen.
    let a : Around = record { spent = c.args.file.now.spent; job = c.args.file.now.job; drives = ds; chosen = chosen } in
    sym (c.job_after.ensures.value c.begin_fence.new.kept c.begin_fence.new.effects a) ∙ c.in_ok-turn.ensures.turn a

pub returns-clause-sound : goal.returns-clause-sound
returns-clause-sound c = record {
  kept = c.in_ok-turn.ensures.keeps.sound c.requires.sound;
  alone = alone_with c.begin_fence.new.kept c.job_after.result c.in_ok-turn.ensures.alone;
  job = c.job_after.ensures.sound c.begin_fence.new.kept c.args.effects.now c.begin_fence.new.effects c.in_ok-turn.ensures.sound;
}
