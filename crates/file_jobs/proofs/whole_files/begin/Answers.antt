use Rattle.server_rules.specs.Jobs.{fence_begins}
use Rattle.file_jobs.proofs.Mends.{alone_with, sound_low}
use Rattle.file_jobs.proofs.Settled.{settled_steps}
use Rattle.file_jobs.proofs.whole_files.begin.Goals as goal

pub job_after_turn-requires-clause-turn : goal.job_after_turn-requires-clause-turn
job_after_turn-requires-clause-turn g c =
    sound_low c.in_ok-turn.turn c.args.effects.now c.begin_fence.new.effects c.begin_fence.new.kept c.requires.low
    c.requires.objects c.in_ok-turn.ensures.sound

pub returns-clause-steps : goal.returns-clause-steps
returns-clause-steps g c =
    settled_steps
    (fence_begins c.args.kind c.args.format) c.in_ok-turn.turn c.args.loads.now c.args.file.now c.args.effects.now
    c.begin_fence.new.effects c.job_after_turn.new.effects c.begin_fence.new.kept
    c.in_ok-file.field-0 (λ a e. c.in_ok-turn.ensures.turn a) c.in_ok-file.ensures.job

pub returns-clause-sound : goal.returns-clause-sound
returns-clause-sound g c = record {
  kept = c.in_ok-turn.ensures.keeps.sound c.requires.sound;
  alone = alone_with c.begin_fence.new.kept c.in_ok-file.field-0 c.in_ok-turn.ensures.alone;
  job = c.in_ok-file.ensures.sound;
}
