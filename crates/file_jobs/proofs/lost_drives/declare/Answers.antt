use Rattle.std.specs.Prelude.{Some, true, refl, ◌≡◌, ◌||◌}
use Rattle.std.proofs.Common.{sym, ◌∙◌}
use Rattle.std.proofs.lemmas.Bool.{or_left, or_right}
use Rattle.server_rules.specs.Jobs.{declares, targets}
use Rattle.server_rules.specs.Standing.{any_on}
use Rattle.file_jobs.proofs.FitsLaws.{fits_lost, job_of}
use Rattle.file_jobs.proofs.Losses.{declares_is, lost_many, sound_off}
use Rattle.file_jobs.proofs.Mends.{alone_idle, alone_of, alone_with, job_idle, sound_low}
use Rattle.file_jobs.proofs.Settled.{settled_steps}
use Rattle.file_jobs.proofs.lost_drives.declare.Goals as goal
use Rattle.file_jobs.proofs.lost_drives.declare.Goals.{else-not-any_on-via-then-not-any_on+else-not-has_target, else-not-any_on-via-else-not-any_on}

pub returns-in_default-clause-keeps : goal.returns-in_default-clause-keeps
returns-in_default-clause-keeps g c = record {
  number = refl;
  grants = λ e. e;
  sound = λ s. sound_off c.args.file.now.kept c.in_ok-file.field-0 c.args.drive
      (rw c.as_slice-2.ensures at c.in_ok-file.ensures) s;
}

pub go_on_without_drive-requires-clause-sound : goal.go_on_without_drive-requires-clause-sound
go_on_without_drive-requires-clause-sound g c =
    sound_off c.args.file.now.kept c.in_ok-file.field-0 c.args.drive
    (rw c.as_slice-2.ensures at c.in_ok-file.ensures) c.requires.sound.kept

pub job_after_turn-requires-clause-turn : goal.job_after_turn-requires-clause-turn
job_after_turn-requires-clause-turn g c =
    sound_low c.in_ok-turn.turn c.args.effects.now c.go_on_without_drive.new.effects c.go_on_without_drive.new.kept c.requires.low
    c.requires.objects c.in_ok-turn.ensures.sound

pub returns-clause-keeps : goal.returns-clause-keeps
returns-clause-keeps g c = record {
  number = c.in_ok-turn.ensures.keeps.number;
  grants = λ e. c.in_ok-turn.ensures.keeps.grants e;
  sound = λ s. c.in_ok-turn.ensures.keeps.sound
      (sound_off c.args.file.now.kept c.in_ok-file.field-0 c.args.drive (rw c.as_slice-2.ensures at c.in_ok-file.ensures) s);
}

pub go_on_without_drive-requires-clause-job : goal.go_on_without_drive-requires-clause-job
go_on_without_drive-requires-clause-job g c =
    let kept = c.args.file.now.kept in
    fits_lost kept (record kept { components = c.in_ok-file.field-0 }) _ c.in-Some.job.work refl refl
    (lost_many c.in_ok-file.field-0 c.args.drive kept.components (rw c.as_slice-2.ensures at c.in_ok-file.ensures))
    (job_of kept c.args.file.now.job c.in-Some.job (sym c.take.ensures.value ∙ c.in-Some.is) c.requires.sound.job)

pub returns-in_default-clause-sound : goal.returns-in_default-clause-sound
returns-in_default-clause-sound g c = record {
  kept = sound_off c.args.file.now.kept c.in_ok-file.field-0 c.args.drive
      (rw c.as_slice-2.ensures at c.in_ok-file.ensures) c.requires.sound.kept;
  alone = alone_idle (record c.args.file.now.kept { components = c.in_ok-file.field-0 }) c.take.new.self c.take.ensures.after;
  job = job_idle (record c.args.file.now.kept { components = c.in_ok-file.field-0 }) c.take.new.self c.take.ensures.after;
}

pub job_after_turn-requires-clause-sound : goal.job_after_turn-requires-clause-sound
job_after_turn-requires-clause-sound g c =
    c.in_ok-turn.ensures.keeps.sound
    (sound_off c.args.file.now.kept c.in_ok-file.field-0 c.args.drive
    (rw c.as_slice-2.ensures at c.in_ok-file.ensures) c.requires.sound.kept)

pub returns-clause-steps : goal.returns-clause-steps
returns-clause-steps g c =
    let f = c.args.file.now in
    let e : f.job ≡ Some c.in-Some.job = sym c.take.ensures.value ∙ c.in-Some.is in
    let there : (any_on c.args.drive f.kept.components || targets f.job c.args.drive) ≡ true = elim c.else-not-any_on.branch [
      | else-not-any_on-via-then-not-any_on+else-not-has_target w ↦ or_right _ _
          (sym w.has_target.ensures ∙ w.if-not-has_target.false)
      | else-not-any_on-via-else-not-any_on w ↦ or_left _ _
          (sym (rw c.as_slice.ensures at c.any_on.ensures) ∙ w.if-not-any_on.false)
    ] in
    settled_steps
    (λ g. declares g c.args.drive) c.in_ok-turn.turn c.args.loads.now f c.args.effects.now c.go_on_without_drive.new.effects
    c.job_after_turn.new.effects c.go_on_without_drive.new.kept c.in_ok-file-2.field-0
    (λ a h.
    c.in_ok-turn.ensures.turn a (h ∙ e)
    ∙ declares_is
    (record { kept = f.kept; spent = a.spent; job = a.job }) c.args.effects.now a.drives a.chosen c.args.drive
    c.in_ok-file.field-0 c.in-Some.job (rw h there) (rw c.as_slice-2.ensures at c.in_ok-file.ensures) (h ∙ e))
    c.in_ok-file-2.ensures.job

pub returns-clause-sound : goal.returns-clause-sound
returns-clause-sound g c =
    let e = sym c.take.ensures.value ∙ c.in-Some.is in record {
      kept = c.in_ok-turn.ensures.keeps.sound
          (sound_off c.args.file.now.kept c.in_ok-file.field-0 c.args.drive
          (rw c.as_slice-2.ensures at c.in_ok-file.ensures) c.requires.sound.kept);
      alone = alone_with c.go_on_without_drive.new.kept c.in_ok-file-2.field-0
          (c.in_ok-turn.ensures.keeps.grants
          (alone_of c.args.file.now.kept c.args.file.now.job c.in-Some.job e c.requires.sound.alone));
      job = c.in_ok-file-2.ensures.sound;
    }
