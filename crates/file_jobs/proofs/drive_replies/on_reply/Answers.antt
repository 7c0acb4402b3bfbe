use Rattle.std.specs.Prelude.{◌++◌}
use Rattle.std.proofs.Common.{sym, ◌∙◌}
use Rattle.server_rules.specs.Replies.{on_reply}
use Rattle.file_jobs.specs.Steps.{Around, at}
use Rattle.file_jobs.proofs.HeardLaws.{is_heard}
use Rattle.file_jobs.proofs.Mends.{alone_of, alone_with, sound_low}
use Rattle.file_jobs.proofs.drive_replies.on_reply.Goals as goal

pub job_after_turn-requires-clause-turn : goal.job_after_turn-requires-clause-turn
job_after_turn-requires-clause-turn g c =
    sound_low c.in_ok-turn.turn c.args.effects.now c.take_reply.new.effects c.take_reply.new.kept c.requires.low
    c.requires.objects c.in_ok-turn.ensures.sound

pub returns-clause-heard : goal.returns-clause-heard
unfolding on_reply
returns-clause-heard g c = λ ds l.
    let s = c.in_ok-file.ensures.job in
    let e = sym c.take.ensures.value ∙ c.in-Some-take.is in (
      s.0,
      λ rest.
          let a : Around = record { spent = c.args.file.now.spent; job = c.args.file.now.job; drives = ds; chosen = rest } in
          is_heard (at c.args.file.now c.args.effects.now ds (s.0 ++ rest)) c.args.drive c.args.reply.now c.args.file.now.job
          c.in-Some-take.job c.in-Some.place _ e c.in-Some.ensures.found
          (λ x f. s.1 a l ∙ c.in_ok-turn.ensures.turn x f (record a { chosen = s.0 ++ rest }) e),
    )

pub returns-clause-sound : goal.returns-clause-sound
returns-clause-sound g c =
    let e = sym c.take.ensures.value ∙ c.in-Some-take.is in record {
      kept = c.in_ok-turn.ensures.keeps.sound c.requires.sound.kept;
      alone = alone_with c.take_reply.new.kept c.in_ok-file.field-0
          (c.in_ok-turn.ensures.keeps.grants
          (alone_of c.args.file.now.kept c.args.file.now.job c.in-Some-take.job e c.requires.sound.alone));
      job = c.in_ok-file.ensures.sound;
    }
