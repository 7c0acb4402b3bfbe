use Rattle.std.proofs.lemmas.Result.{IfOk-weaker}
use Rattle.file_jobs.proofs.Audits.{few_asked}
use Rattle.file_jobs.proofs.Mends.{sound_from}
use Rattle.file_jobs.proofs.audit.begin_audit.Goals as goal

pub returns-clause-sound : goal.returns-clause-sound
returns-clause-sound c =
    IfOk-weaker c.rest.result _ _
    (λ turn h. sound_from turn _ _ _ _
    (few_asked c.args.kept.now _ _ _ c.in_ok-measures.measures c.in_ok-measures.ensures c.requires.sound.few) h)
    c.rest.ensures.job
