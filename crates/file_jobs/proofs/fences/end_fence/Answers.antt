use Rattle.std.specs.Prelude.{refl}
use Rattle.std.proofs.lemmas.Result.{IfOk-weaker}
use Rattle.file_jobs.proofs.Mends.{sound_after}
use Rattle.file_jobs.proofs.fences.end_fence.Goals as goal

pub returns-clause-sound : goal.returns-clause-sound
returns-clause-sound c =
    IfOk-weaker c.begin_repair.result _ _
    (λ turn h. sound_after turn _ _ _ _ (rw c.in_ok-note.ensures (refl, refl)) h) c.begin_repair.ensures.sound
