use Rattle.std.proofs.lemmas.Result.{IfOk-weaker}
use Rattle.file_jobs.proofs.Mends.{sound_from}
use Rattle.file_jobs.proofs.fences.send_next_tag.Goals as goal

pub returns-clause-sound : goal.returns-clause-sound
returns-clause-sound c = IfOk-weaker c.rest.result _ _ (λ turn h. sound_from turn _ _ _ _ c.requires.next h) c.rest.ensures.job
