use Rattle.std.proofs.lemmas.Result.{IfOk-weaker}
use Rattle.stripe_repair.proofs.RepairLaws.{none_of}
use Rattle.file_jobs.specs.Steps.{going}
use Rattle.file_jobs.proofs.Mends.{fits_repair, mended_stays, mends, sound_from}
use Rattle.file_jobs.proofs.repair.rest_in_repair.Goals as goal

pub returns-then-is_empty-clause-turn : goal.returns-then-is_empty-clause-turn
returns-then-is_empty-clause-turn c = λ a.
    mends c.args.kind (going c.args.kept.now c.args.effects.now a)
    (going c.end_repair.new.kept c.end_repair.new.effects a) c.args.sends c.args.repair c.short.result.now
    (none_of c.is_empty.result c.args.sends c.is_empty.ensures c.if-is_empty.true) c.short.ensures
    (c.in_ok-end_repair.ensures.made a)

pub returns-then-is_empty-clause-sound : goal.returns-then-is_empty-clause-sound
returns-then-is_empty-clause-sound c =
    mended_stays c.args.kept.now c.end_repair.new.kept c.args.effects.now c.end_repair.new.effects c.short.result.now
    c.in_ok-end_repair.ensures.made

pub returns-clause-sound : goal.returns-clause-sound
returns-clause-sound c =
    IfOk-weaker c.rest.result _ _
    (λ turn h. sound_from turn _ _ _ _ (fits_repair c.args.kept.now _ c.args.repair) h) c.rest.ensures.job
